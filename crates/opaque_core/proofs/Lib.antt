-- The files of lemmas.
pub mod Words
