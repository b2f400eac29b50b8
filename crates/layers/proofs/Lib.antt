pub mod LayerLeaves
