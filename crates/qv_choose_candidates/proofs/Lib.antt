pub mod ListLaws
pub mod SideLaws
pub mod TrialUses
pub mod BetweenLaws
pub mod PutLaws
pub mod OfferLaws
pub mod SightLaws
pub mod ChoiceUses
