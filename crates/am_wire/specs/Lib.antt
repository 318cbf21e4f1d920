-- the codes of the refusals
pub mod Refusals
-- lists of bytes
pub mod Bytes
-- numbers and texts, and things one after another
pub mod Fields
-- labels, and sets of label sets
pub mod LabelFields
-- items
pub mod ItemFields
-- .. within a message
pub mod Items
-- messages
pub mod Messages
-- lengths
pub mod Lengths
