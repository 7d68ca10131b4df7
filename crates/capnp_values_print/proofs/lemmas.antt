pub mod Children
pub mod ElementTexts
pub mod Models
pub mod ModelTexts
pub mod PrintedFields
pub mod Shows
pub mod SoundShapes
