pub mod SpacedText
