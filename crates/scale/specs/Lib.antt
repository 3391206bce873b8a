pub mod Algebra
pub mod TwoWay
pub mod Lights
pub mod Lanes
pub mod Margins
pub mod Translations
pub mod Laws
