mod NewPasses
mod Expected
