pub mod DirtyPages
pub mod Numbers
pub mod Pages
pub mod Tops
