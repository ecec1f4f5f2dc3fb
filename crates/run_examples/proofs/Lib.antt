pub mod CursorLemmas
pub mod EditorLemmas
pub mod StringLemmas
pub mod ShownLemmas
pub mod SourceLemmas
mod RoomLemmas
pub mod UndoLemmas
pub mod GrowingLemmas
