pub mod WholeCall
pub mod Play
pub mod Laws
