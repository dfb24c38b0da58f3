pub mod Account
pub mod Forms
