mod PointLemmas
mod MovedLemmas
mod SpotLemmas
mod ListedLemmas
mod SeenLemmas
pub mod KeyLemmas
mod PlaceLemmas
mod GameLemmas
mod IndexLemmas
mod BuildLemmas
mod LegalHits
pub mod LegalMoves
mod StandingLemmas
