-- A line that is offered to the client that is connected.
use Rattle.std.specs.Prelude.{ℕ, List}
use Rattle.std.specs.declared.time.Instant.{Instant}
use Rattle.wb_converter.specs.Outbox.{Waiting, offered}
use Rattle.wb_converter.specs.declared.client.Client.{Client}

-- what waits for a client, and the time after which its newest line came
abbrev pub waiting_lines : {S : Type 0} → Client S → Waiting × Instant
waiting_lines client = (client.waiting, client.came)

-- the same once this line was offered, which came after that time
abbrev pub offered_at : {S : Type 0} → List ℕ → Instant → Client S → Waiting × Instant
offered_at line came client = (offered line client.waiting, came)
