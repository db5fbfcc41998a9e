pub mod NameLists
pub mod NamesFile
pub mod Reading
pub mod KindRead
pub mod KindReading
pub mod NamesText
pub mod PartNames
