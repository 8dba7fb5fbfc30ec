-- What the tags give and mean, in the reader's words: document 01, "Reader's side".
pub mod Tags
