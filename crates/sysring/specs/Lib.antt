pub mod Accounts
pub mod Lemmas
pub mod Origins
pub mod Sessions
