pub mod Labels
pub mod Layers
pub mod LayerLaws
pub mod Layered
