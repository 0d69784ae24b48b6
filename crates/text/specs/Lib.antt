-- What reading a text file says, in the words of the room format.
pub mod Reading
pub mod ReadingLoops
pub mod QuickLoops
