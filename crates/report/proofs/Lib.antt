-- the members of a list, by where they stand
pub mod MemberLaws
-- numbers put in order, part by part
pub mod OrderLaws
-- each of them once
pub mod DistinctLaws
-- the triples of a report
pub mod TripleLaws
-- a list of positions in order, each once
pub mod SettleLaws
-- what a report answers at each of its tests
pub mod ReportLaws
-- ---- the call
-- what it covers, and that neither order nor repetition matters
pub mod CallLaws
-- that the room it asks for is all that it may take
pub mod RoomLaws
-- the contract allows one result alone
pub mod Determined
