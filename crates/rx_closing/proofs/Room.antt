-- Room for the calls that may live at a node.
pub mod OnceKept
pub mod SlotLeft
pub mod WroteRoom
pub mod HeldLow
pub mod RoomCounts
