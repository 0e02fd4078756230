pub mod Cells
pub mod Given
pub mod Numbers
pub mod Histories
pub mod Woven
pub mod AtNode
pub mod Laws
pub mod Answered
