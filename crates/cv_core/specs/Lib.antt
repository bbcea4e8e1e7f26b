pub mod NewestOf
