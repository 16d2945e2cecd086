-- from the tests of a call that fills to its promise; the room of the destinations
pub mod CallLaws
