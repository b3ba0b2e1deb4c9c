-- The blocks of a tree, each with its code.
use Rattle.std.specs.Prelude.{List, map}
use Rattle.tera_errors.specs.Site as site
use Rattle.tera_syntax_tree.specs.Tree.{Nodes}
use Rattle.tera_code.specs.declared.blocks.BlockCode.{BlockCode}
use Rattle.tera_code.specs.Listing.{Listing}
use Rattle.tera_code.specs.Code.{listing_of}

-- the name of the block, and its code
abbrev pub block_of : BlockCode → site.Name × Listing
block_of b = (b.name, b.code)

-- the code of a block in this template's text
abbrev pub block_listing : site.Name → site.Name × Nodes → site.Name × Listing
block_listing file b = (b.0, listing_of file b.1)

abbrev pub block_listings : site.Name → List (site.Name × Nodes) → List (site.Name × Listing)
block_listings file = map (block_listing file)
