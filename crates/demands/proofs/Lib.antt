-- ---- demand 3, from the answer of the check
pub mod PlainMachine
-- ---- demand 2, from the answers of tables and writer
pub mod RoundTrip
-- ---- one tree over document 01's tables
pub mod OneTree
