-- What the router of the routes holds.
use Rattle.std.specs.Prelude.{ℕ, List, [], ◌∷◌, ◌++◌, codes}
use Rattle.matchit.specs.Rows.{RowsOf}
use Rattle.matchit.specs.Router.{RouteOf}
use Rattle.wb_http.specs.declared.routes.Route.{Route}
use Rattle.wb_http.specs.declared.routes.Route.TheVariants.{Check, Indication, JournalCsv, Purge, Ticket, TicketsCsv, Voids, Weighings}

-- a route without a parameter
abbrev pub fixed : List ℕ → Route → List ℕ × RouteOf Route
fixed path route = (path, record { pattern = path; text = path; names = []; value = route })

-- the pattern of a ticket's path: its parameter is one token
abbrev pub ticket_pattern : List ℕ
ticket_pattern = codes "/tickets/" ++ 256 ∷ []

-- the eight routes, in the order of the router
abbrev pub table : RowsOf (RouteOf Route)
table =
    fixed (codes "/check") Check ∷ fixed (codes "/indication") Indication ∷ fixed (codes "/journal.csv") JournalCsv
    ∷ fixed (codes "/purge") Purge ∷ fixed (codes "/tickets.csv") TicketsCsv
    ∷ (ticket_pattern, record { pattern = ticket_pattern; text = codes "/tickets/{number}"; names = (10, 16) ∷ []; value = Ticket })
    ∷ fixed (codes "/voids") Voids ∷ fixed (codes "/weighings") Weighings ∷ []
