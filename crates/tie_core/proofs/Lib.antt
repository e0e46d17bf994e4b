mod Twice
mod SeatSteps
mod DeskParts
mod DeskSent
mod FixedParts
mod TagParts
pub mod VisitParts
pub mod OfferMade
pub mod RunOfferMade
pub mod SeatsMade
