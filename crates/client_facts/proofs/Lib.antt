pub mod FileSteps
pub mod KnownSteps
pub mod FlushSteps
pub mod SweptSteps
pub mod EntrySteps
pub mod TakeSteps
pub mod CallSteps
