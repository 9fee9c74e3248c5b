pub mod Checked
pub mod File
pub mod Image
pub mod Laws
