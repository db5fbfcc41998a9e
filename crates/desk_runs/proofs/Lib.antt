pub mod FilterLaws
pub mod IsolationLaws
pub mod RefusalLaws
pub mod SlotLaws
pub mod AgreeLaws
