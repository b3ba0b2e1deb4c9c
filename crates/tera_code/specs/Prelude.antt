-- The definitions that contracts of other crates name, passed on from one file.
pub use Rattle.tera_code.specs.Code.{listing_of, nodes_code}
pub use Rattle.tera_code.specs.Blocks.{block_listings, block_of}
pub use Rattle.tera_code.specs.Called.{called_by, callee_of}
pub use Rattle.tera_code.specs.Targets.{target_called, target_in}
