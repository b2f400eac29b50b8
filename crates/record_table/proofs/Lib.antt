mod Fresh
mod ChainedLaws
