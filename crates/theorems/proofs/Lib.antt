-- Proofs of what specs/ states, over the definitions of the other crates.
pub mod SpelledLaws
pub mod RunLaws
pub mod SameIds
