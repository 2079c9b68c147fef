-- What a replay prints.
pub mod PrintedOutputs
pub mod Replayed
-- The service: what comes in a turn, and how it ends.
pub mod Turns
pub mod HandedOn
pub mod Served
-- What a check, the exports and a migration print.
pub mod CheckAndExports
pub mod Migrated
-- The exit status of each end.
pub mod Statuses
-- What private functions' contracts need besides.
pub mod helpers
