pub mod Grammar
pub mod Laws
pub mod Reading
pub mod ScriptError
pub mod Spelling
pub mod Text
