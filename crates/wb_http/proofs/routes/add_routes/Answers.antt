use Rattle.std.proofs.Common.{◌≡◌, Err, List, [], ◌∷◌, None, codes, ℕ, refl, rules}
use Rattle.matchit.proofs.OnLiterals.{matchit_on_literals}
use Rattle.matchit.specs.Router.{Refused, RouteOf, nearest}
use Rattle.matchit.specs.Rows.{RowsOf}
use Rattle.matchit.specs.declared.error.InsertError.{InsertError}
use Rattle.matchit.specs.declared.error.InsertError.TheVariants.{Conflict, InvalidCatchAll, InvalidParam, InvalidParamSegment, OutOfMemory}
use Rattle.wb_http.specs.declared.routes.Route.{Route}
use Rattle.wb_http.specs.declared.routes.Route.TheVariants.{Indication, JournalCsv, Purge, Ticket, TicketsCsv, Voids, Weighings}
use Rattle.wb_http.specs.Router.{fixed, ticket_pattern}
use Rattle.wb_http.proofs.routes.add_routes.Goals as goal

abbrev pub ticket_row : List ℕ × RouteOf Route
ticket_row = (ticket_pattern, record { pattern = ticket_pattern; text = codes "/tickets/{number}"; names = (10, 16) ∷ []; value = Ticket })

-- a path that conflicts with no row is refused for want of memory alone
memory_alone : (p : List ℕ) (rows : RowsOf (RouteOf Route)) (e : InsertError) → Refused p rows e → nearest p rows ≡ None → e ≡ OutOfMemory
memory_alone p rows (Conflict with) refused apart = absurd (cc (refused.1, apart))
memory_alone p rows OutOfMemory refused apart = refl
memory_alone p rows InvalidParamSegment refused apart = absurd refused
memory_alone p rows InvalidParam refused apart = absurd refused
memory_alone p rows InvalidCatchAll refused apart = absurd refused

pub returns-clause-value : goal.returns-clause-value
unfolding matchit_on_literals
returns-clause-value c =
    let a1 = c.in_ok-insert.ensures in
    let a2 = c.in_ok-insert-2.ensures in
    let a3 = c.in_ok-insert-3.ensures in
    let a4 = c.in_ok-insert-4.ensures in
    let a5 = c.in_ok-insert-5.ensures in
    let a6 = c.in_ok-insert-6.ensures in
    let a7 = c.in_ok-insert-7.ensures in
    let a8 = c.in_ok-insert-8.ensures in
    rw (a7.1, a6.1, a5.1, a4.1, a3.1, a2.1, a1.1, c.requires) at a8.1

pub returns-in_err-insert-clause-memory : goal.returns-in_err-insert-clause-memory
unfolding matchit_on_literals
returns-in_err-insert-clause-memory c =
    let refused = rw (c.requires) at c.in_err-insert.ensures.1 in
    let same : c.from_residual.result ≡ Err c.in_err-insert.field-0.0 = search (rules, c.from_residual.ensures) in
    rw same (memory_alone (codes "/weighings") [] c.in_err-insert.field-0.0 refused refl)

pub returns-in_err-insert-2-clause-memory : goal.returns-in_err-insert-2-clause-memory
unfolding matchit_on_literals
returns-in_err-insert-2-clause-memory c =
    let a1 = c.in_ok-insert.ensures in
    let refused = rw (a1.1, c.requires) at c.in_err-insert-2.ensures.1 in
    let same : c.from_residual-in_err-insert-2.result ≡ Err c.in_err-insert-2.field-0.0 = search (rules, c.from_residual-in_err-insert-2.ensures) in
    rw same (memory_alone (codes "/voids") (fixed (codes "/weighings") Weighings ∷ []) c.in_err-insert-2.field-0.0 refused refl)

pub returns-in_err-insert-3-clause-memory : goal.returns-in_err-insert-3-clause-memory
unfolding matchit_on_literals
returns-in_err-insert-3-clause-memory c =
    let a1 = c.in_ok-insert.ensures in
    let a2 = c.in_ok-insert-2.ensures in
    let refused = rw (a2.1, a1.1, c.requires) at c.in_err-insert-3.ensures.1 in
    let same : c.from_residual-in_err-insert-3.result ≡ Err c.in_err-insert-3.field-0.0 = search (rules, c.from_residual-in_err-insert-3.ensures) in
    rw same (memory_alone (codes "/purge") (fixed (codes "/voids") Voids ∷ fixed (codes "/weighings") Weighings ∷ []) c.in_err-insert-3.field-0.0 refused refl)

pub returns-in_err-insert-4-clause-memory : goal.returns-in_err-insert-4-clause-memory
unfolding matchit_on_literals
returns-in_err-insert-4-clause-memory c =
    let a1 = c.in_ok-insert.ensures in
    let a2 = c.in_ok-insert-2.ensures in
    let a3 = c.in_ok-insert-3.ensures in
    let refused = rw (a3.1, a2.1, a1.1, c.requires) at c.in_err-insert-4.ensures.1 in
    let same : c.from_residual-in_err-insert-4.result ≡ Err c.in_err-insert-4.field-0.0 = search (rules, c.from_residual-in_err-insert-4.ensures) in
    rw same (memory_alone ticket_pattern (fixed (codes "/purge") Purge ∷ fixed (codes "/voids") Voids ∷ fixed (codes "/weighings") Weighings ∷ []) c.in_err-insert-4.field-0.0 refused refl)

pub returns-in_err-insert-5-clause-memory : goal.returns-in_err-insert-5-clause-memory
unfolding matchit_on_literals
returns-in_err-insert-5-clause-memory c =
    let a1 = c.in_ok-insert.ensures in
    let a2 = c.in_ok-insert-2.ensures in
    let a3 = c.in_ok-insert-3.ensures in
    let a4 = c.in_ok-insert-4.ensures in
    let refused = rw (a4.1, a3.1, a2.1, a1.1, c.requires) at c.in_err-insert-5.ensures.1 in
    let same : c.from_residual-in_err-insert-5.result ≡ Err c.in_err-insert-5.field-0.0 = search (rules, c.from_residual-in_err-insert-5.ensures) in
    rw same (memory_alone (codes "/indication") (fixed (codes "/purge") Purge ∷ ticket_row ∷ fixed (codes "/voids") Voids ∷ fixed (codes "/weighings") Weighings ∷ []) c.in_err-insert-5.field-0.0 refused refl)

pub returns-in_err-insert-6-clause-memory : goal.returns-in_err-insert-6-clause-memory
unfolding matchit_on_literals
returns-in_err-insert-6-clause-memory c =
    let a1 = c.in_ok-insert.ensures in
    let a2 = c.in_ok-insert-2.ensures in
    let a3 = c.in_ok-insert-3.ensures in
    let a4 = c.in_ok-insert-4.ensures in
    let a5 = c.in_ok-insert-5.ensures in
    let refused = rw (a5.1, a4.1, a3.1, a2.1, a1.1, c.requires) at c.in_err-insert-6.ensures.1 in
    let same : c.from_residual-in_err-insert-6.result ≡ Err c.in_err-insert-6.field-0.0 = search (rules, c.from_residual-in_err-insert-6.ensures) in
    rw same (memory_alone (codes "/journal.csv") (fixed (codes "/indication") Indication ∷ fixed (codes "/purge") Purge ∷ ticket_row ∷ fixed (codes "/voids") Voids ∷ fixed (codes "/weighings") Weighings ∷ []) c.in_err-insert-6.field-0.0 refused refl)

pub returns-in_err-insert-7-clause-memory : goal.returns-in_err-insert-7-clause-memory
unfolding matchit_on_literals
returns-in_err-insert-7-clause-memory c =
    let a1 = c.in_ok-insert.ensures in
    let a2 = c.in_ok-insert-2.ensures in
    let a3 = c.in_ok-insert-3.ensures in
    let a4 = c.in_ok-insert-4.ensures in
    let a5 = c.in_ok-insert-5.ensures in
    let a6 = c.in_ok-insert-6.ensures in
    let refused = rw (a6.1, a5.1, a4.1, a3.1, a2.1, a1.1, c.requires) at c.in_err-insert-7.ensures.1 in
    let same : c.from_residual-in_err-insert-7.result ≡ Err c.in_err-insert-7.field-0.0 = search (rules, c.from_residual-in_err-insert-7.ensures) in
    rw same (memory_alone (codes "/tickets.csv") (fixed (codes "/indication") Indication ∷ fixed (codes "/journal.csv") JournalCsv ∷ fixed (codes "/purge") Purge ∷ ticket_row ∷ fixed (codes "/voids") Voids ∷ fixed (codes "/weighings") Weighings ∷ []) c.in_err-insert-7.field-0.0 refused refl)

pub returns-in_err-insert-8-clause-memory : goal.returns-in_err-insert-8-clause-memory
unfolding matchit_on_literals
returns-in_err-insert-8-clause-memory c =
    let a1 = c.in_ok-insert.ensures in
    let a2 = c.in_ok-insert-2.ensures in
    let a3 = c.in_ok-insert-3.ensures in
    let a4 = c.in_ok-insert-4.ensures in
    let a5 = c.in_ok-insert-5.ensures in
    let a6 = c.in_ok-insert-6.ensures in
    let a7 = c.in_ok-insert-7.ensures in
    let refused = rw (a7.1, a6.1, a5.1, a4.1, a3.1, a2.1, a1.1, c.requires) at c.in_err-insert-8.ensures.1 in
    let same : c.from_residual-in_err-insert-8.result ≡ Err c.in_err-insert-8.field-0.0 = search (rules, c.from_residual-in_err-insert-8.ensures) in
    rw same (memory_alone (codes "/check") (fixed (codes "/indication") Indication ∷ fixed (codes "/journal.csv") JournalCsv ∷ fixed (codes "/purge") Purge ∷ fixed (codes "/tickets.csv") TicketsCsv ∷ ticket_row ∷ fixed (codes "/voids") Voids ∷ fixed (codes "/weighings") Weighings ∷ []) c.in_err-insert-8.field-0.0 refused refl)
