pub mod PageFilters
