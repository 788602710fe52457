pub mod Verbs
pub mod Kinds
pub mod Labels
pub mod VerbsLemmas
pub mod Numbers
