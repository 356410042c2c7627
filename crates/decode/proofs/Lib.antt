-- Laws on the definitions of this crate, for its proofs and those of the crates above it.
pub mod FormLaws
pub mod FedLaws
pub mod TextLaws
pub mod StateLaws
pub mod ByteLaws
pub mod RoomLaws
pub mod WordLaws
pub mod QuickLaws
pub mod PassLaws
pub mod DecodeLaws
