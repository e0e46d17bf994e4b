-- Statuses have different numbers.
pub use Rattle.handle_core.proofs.Codes.{if_done, if_refused, done_as_called}
