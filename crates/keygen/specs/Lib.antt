pub mod InnerMaterial
