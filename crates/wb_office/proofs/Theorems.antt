-- Laws on whatever the office is asked, in the words of a weighbridge's operator.
--
-- They speak of the definitions, for every situation and every list of requests. `Office::answer` keeps them by its clause
-- `serves`: in the situation in which a request finds the scale and the store, it is answered as the definitions say, and the
-- store stands for the lists that they leave (`judged`). So each request is one turn of a course. One that is answered 15 left the
-- lists as they were (`kept`), or its disk failed; then, and at any stop, an opening finds the lists before it or those after it
-- (`leaves`). In a course it was made or it wasn't.
use Rattle.wb_office.proofs.Common.{Ghosts, AllWeighed, AnsweredAfterChaining, AnsweredAgain, FullAtLastNumber, KeepsPartners, KeyDecides, NumbersRun, OneEntryPerKey, WithinCapacity, ClosingsHavePartners, FirstsClosedOnce, KeptForItsTime, RefusalsChangeNothing, StaysSound, TicketGivenAgain, AnsweredAfterStops, RepeatedOverMigration, TicketOverMigration}
use Rattle.wb_office.proofs.Verdicts.{key_decides}
use Rattle.wb_office.proofs.courses.AcceptedEntries.{full_for_closing}
use Rattle.wb_office.proofs.courses.ClosedWeighings.{closings_have_partners, firsts_closed_once}
use Rattle.wb_office.proofs.courses.KeptEntries.{kept_for_its_time}
use Rattle.wb_office.proofs.courses.Numbers.{numbers_run}
use Rattle.wb_office.proofs.courses.OverMigration.{answered_after_chaining, repeated_over_migration, ticket_over_migration}
use Rattle.wb_office.proofs.courses.Places.{keeps_partners, within_capacity}
use Rattle.wb_office.proofs.courses.Refusals.{refusals_change_nothing}
use Rattle.wb_office.proofs.courses.RepeatedRequests.{answered_again}
use Rattle.wb_office.proofs.courses.SoundJournals.{stays_sound}
use Rattle.wb_office.proofs.courses.Stops.{answered_after_stops}
use Rattle.wb_office.proofs.courses.StoredLoads.{all_weighed}
use Rattle.wb_office.proofs.courses.TakenKeys.{one_entry_per_key}
use Rattle.wb_office.proofs.courses.Tickets.{ticket_given_again}

-- A key is accepted at most once, whatever is asked and wherever it is stopped. From then on its entry is stored, or the key is spent.
pub law_of_keys : OneEntryPerKey
law_of_keys = one_entry_per_key

-- A request that was answered with an entry, its own or one that it repeated, is answered with the same text when it is made again, whatever the load
-- and the clock are, as long as the entry is stored; so is the ticket of its number. After a purge of the entry it is refused as gone.
pub law_of_repeated_requests : AnsweredAgain
law_of_repeated_requests = answered_again

-- The key decides first, whoever wrote the tables: a stored entry is repeated, or refused if it is damaged or another was asked for; a spent key is
-- refused; only a new one is judged.
pub law_of_known_keys : KeyDecides
law_of_known_keys = key_decides

-- A request may be broken off by a stop, or be followed by one. An opening finds the journal before it or the one after it, and the same weighing or
-- void, asked again at whatever load and moment, is answered with the kept text if its entry is stored, refused as damaged if that isn't sound,
-- refused as gone if it was purged, and else judged anew.
pub law_of_stops : {D : Type 0} (g : Ghosts D) → AnsweredAfterStops g
law_of_stops g = answered_after_stops g

-- A weighing or void that is asked again after a migration: an entry of its key is repeated, with the same text but for digest lines; a key that was purged
-- before is refused as gone; another is judged anew.
pub law_of_migration : RepeatedOverMigration
law_of_migration = repeated_over_migration

-- The same of an entry that was accepted before, whatever else stands in the lists.
pub law_of_chained_keys : AnsweredAfterChaining
law_of_chained_keys = answered_after_chaining

-- A ticket that was given by its number before a migration is given after it, with the same text but for digest lines.
pub law_of_migrated_tickets : TicketOverMigration
law_of_migrated_tickets = ticket_over_migration

-- An accepted entry has the next number, and no request but an accepted one takes a number.
pub law_of_numbers : NumbersRun
law_of_numbers = numbers_run

-- No request raises the places that are taken above the capacity. Where more were taken at the opening, none raises them.
pub law_of_places : WithinCapacity
law_of_places = within_capacity

-- A Second or Void is never refused as journal_full for want of places, so that no weighing stays open for want of one: it is refused so only once
-- the last number was given.
pub law_of_closing_places : FullAtLastNumber
law_of_closing_places = full_for_closing

-- A purge leaves the partner of every entry that stays.
pub law_of_purged_journals : KeepsPartners
law_of_purged_journals = keeps_partners

-- A gross that is stored was stable, not over, not under and at least Min, on a bridge that was cleared before it, and each reading behind it would
-- indicate at most 1 e more or less.
pub law_of_stored_loads : AllWeighed
law_of_stored_loads = all_weighed

-- An entry stands unchanged after whatever is asked, until a purge on whose day it is of age and below the bound: nothing else takes it out of the
-- journal. From then on its key is spent, with its number.
pub law_of_retention : KeptForItsTime
law_of_retention = kept_for_its_time

-- A ticket that was given is given again with the same text, until such a purge takes its entry out.
pub law_of_tickets : TicketGivenAgain
law_of_tickets = ticket_given_again

-- A refusal leaves the entries and the spent keys as they are, and marks nothing on the scale.
pub law_of_refusals : RefusalsChangeNothing
law_of_refusals = refusals_change_nothing

-- A First is closed at most once, whoever wrote the entries: those whose partner it is have one number.
pub law_of_closed_weighings : FirstsClosedOnce
law_of_closed_weighings = firsts_closed_once

-- A Second or Void that was accepted has its partner as long as it is stored.
pub law_of_partners : ClosingsHavePartners
law_of_partners = closings_have_partners

-- A journal in which the check finds no damage stays so, whatever is asked.
pub law_of_sound_journals : StaysSound
law_of_sound_journals = stays_sound
