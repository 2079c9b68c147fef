-- The places that are taken, and the partners, after every request.
use Rattle.std.proofs.Common.{◌≡◌, ap, ap₂, ℕ, ◌+◌, ◌≤◌, ◌<◌, max, Bool, true, false, cond, not, ◌&&◌, ◌||◌, nat_le, nat_lt, List, [], ◌∷◌, ◌++◌, length, refl, arith, true≢false}
use Rattle.wb_office.proofs.Common.{nat_tests, clamps, sum_by-cons, list_any, Contains, count_by, EntryParts, Finding, Sound, Damaged, Kind, First, Second, Single, Void, finding_in, is_closing_kind, is_first_kind, day_of, is_first_of, is_open, is_partner, lies_between, may_pair_of, count_of_open, open_entry, partner_in, kept, IsRising, IsRisingFrom, kept-partner, among-contains, greatest, greatest_spent, number_after, one, open_count_more, Purge, Outcome, entries_after, entries_left, Asking, places, places_needed, KeepsPartners, WithinCapacity, accepted, of_new, verdict}
use Rattle.std.specs.Prelude.{is_some}
use Rattle.wb_office.proofs.courses.AcceptedEntries.{Comes, adding, asking_for, comes, is_new, purging, stays}
use Rattle.wb_office.proofs.ConditionsInOrder.{none_holds}
use Rattle.wb_office.proofs.Members.{among_kept}
use Rattle.wb_office.proofs.courses.Numbers.{number_is_next}

-- ---- one entry more

max_below : (a b n : ℕ) → max a b < n → (a < n) × (b < n)
max_below a b n h = (omega (arith, clamps, h), omega (arith, clamps, h))

rises_from : (n : ℕ) (es : List EntryParts) (e : EntryParts) → IsRisingFrom n es → n < e.number → greatest es < e.number → IsRisingFrom n (es ++ e ∷ [])
rises_from n [] e h above over = (above, tt)
rises_from n (x ∷ es) e h above over = let both = max_below x.number (greatest es) e.number over in (h.0, rises_from x.number es e h.1 both.0 both.1)

pub rises : (es : List EntryParts) (e : EntryParts) → IsRising es → greatest es < e.number → IsRising (es ++ e ∷ [])
rises [] e h over = tt
rises (x ∷ es) e h over = let both = max_below x.number (greatest es) e.number over in rises_from x.number es e h both.0 both.1

pub above_greatest : (es : List EntryParts) (spent n : ℕ) → n ≡ max (greatest es) spent + 1 → greatest es < n
above_greatest es spent n h = omega (arith, clamps, h)

length_more : (es : List EntryParts) (e : EntryParts) → length (es ++ e ∷ []) ≡ length es + 1
length_more [] e = refl
length_more (x ∷ es) e = let more = length_more es e in omega (arith, more)

-- what an entry of a kind makes of the places, where it is not refused
by_kind : (k : Kind) (capacity n firsts after next : ℕ) (found : Bool) → after + one (is_closing_kind k && found) ≡ firsts + one (is_first_kind k)
    → is_closing_kind k && not found ≡ false → (nat_lt 0 (places_needed k) && nat_lt capacity (n + firsts + places_needed k)) || nat_lt 4294967295 next ≡ false
    → n + 1 + after ≤ max capacity (n + firsts)
by_kind First capacity n firsts after next found counts there full = enough (either (nat_lt capacity (n + firsts + 2)) (nat_lt 4294967295 next) full)
  where
    either : (a b : Bool) → (a || b) ≡ false → a ≡ false
    either true b h = absurd (true≢false h)
    either false b h = refl

    enough : nat_lt capacity (n + firsts + 2) ≡ false → n + 1 + after ≤ max capacity (n + firsts)
    enough free = let fits = not_less capacity (n + firsts + 2) free in omega (arith, clamps, fits, counts)
      where
        not_less : (a b : ℕ) → nat_lt a b ≡ false → b ≤ a
        not_less a b h = grind (arith, nat_tests)
by_kind Single capacity n firsts after next found counts there full = enough (either (nat_lt capacity (n + firsts + 1)) (nat_lt 4294967295 next) full)
  where
    either : (a b : Bool) → (a || b) ≡ false → a ≡ false
    either true b h = absurd (true≢false h)
    either false b h = refl

    enough : nat_lt capacity (n + firsts + 1) ≡ false → n + 1 + after ≤ max capacity (n + firsts)
    enough free = let fits = not_less capacity (n + firsts + 1) free in omega (arith, clamps, fits, counts)
      where
        not_less : (a b : ℕ) → nat_lt a b ≡ false → b ≤ a
        not_less a b h = grind (arith, nat_tests)
by_kind Second capacity n firsts after next true counts there full = omega (arith, clamps, counts)
by_kind Second capacity n firsts after next false counts there full = absurd (true≢false there)
by_kind Void capacity n firsts after next true counts there full = omega (arith, clamps, counts)
by_kind Void capacity n firsts after next false counts there full = absurd (true≢false there)

entry_more : (a : Asking) (e : EntryParts) → verdict a ≡ accepted e → IsRising a.now.entries → places (a.now.entries ++ e ∷ []) ≤ max a.now.setup.capacity (places a.now.entries)
entry_more a e is rising =
    let new = is_new a e is in
    let kind : a.kind ≡ e.kind = rw new.made refl in
    let plate : a.plate ≡ e.plate = rw new.made refl in
    let free = none_holds of_new a new.judged in
    let late = free.1.1.1.1.1.1.1.1.1 in
    let there = late.1.0 in
    let full = late.1.1.1.0 in
    let number = number_is_next a e is in
    let counts = open_count_more a.now.entries e (rises a.now.entries e rising (above_greatest a.now.entries (greatest_spent a.now.spent) e.number number)) in
    let all = by_kind e.kind a.now.setup.capacity (length a.now.entries) (count_of_open a.now.entries) (count_of_open (a.now.entries ++ e ∷ [])) (number_after a.now.entries a.now.spent)
    (is_some (open_entry a.now.entries e.plate)) counts (rw (kind, plate) at there) (rw kind at full) in
    rw (length_more a.now.entries e) all

-- ---- a purge

mid_false : (a c : Bool) → ((a && false) && c) ≡ false
mid_false true c = refl
mid_false false c = refl

any_kept : (b : ℕ) (p q : EntryParts → Bool) → ((s : EntryParts) → p s ≡ q s) → ((s : EntryParts) → s.number < b → q s ≡ false) → (xs : List EntryParts)
    → list_any p (kept b xs) ≡ list_any q xs
any_kept b p q same not_low [] = refl
any_kept b p q same not_low (x ∷ xs) = go (nat_le b x.number) refl (any_kept b p q same not_low xs)
  where
    go : (k : Bool) → nat_le b x.number ≡ k → list_any p (kept b xs) ≡ list_any q xs → list_any p (cond k (x ∷ kept b xs) (kept b xs)) ≡ (q x || list_any q xs)
    go true t rest = ap₂ (λ c r. c || r) (same x) rest
    go false t rest = rw (not_low x (low t)) rest
      where
        low : nat_le b x.number ≡ false → x.number < b
        low t = grind (arith, nat_tests)

count_kept : (b : ℕ) (p q : EntryParts → Bool) → ((s : EntryParts) → b ≤ s.number → p s ≡ q s) → (xs : List EntryParts) → count_by p (kept b xs) ≤ count_by q xs
count_kept b p q same [] = omega arith
count_kept b p q same (x ∷ xs) = go (nat_le b x.number) refl (count_kept b p q same xs)
  where
    high : nat_le b x.number ≡ true → b ≤ x.number
    high t = grind (arith, nat_tests)

    go : (k : Bool) → nat_le b x.number ≡ k → count_by p (kept b xs) ≤ count_by q xs → count_by p (cond k (x ∷ kept b xs) (kept b xs)) ≤ count_by q (x ∷ xs)
    go true t rest = rw (sum_by-cons (λ y. cond (p y) 1 0) x (kept b xs), sum_by-cons (λ y. cond (q y) 1 0) x xs, same x (high t)) (omega (arith, rest))
    go false t rest = rw (sum_by-cons (λ y. cond (q y) 1 0) x xs) (omega (arith, rest))

length_kept : (b : ℕ) (xs : List EntryParts) → length (kept b xs) ≤ length xs
length_kept b [] = omega arith
length_kept b (x ∷ xs) = go (nat_le b x.number) (length_kept b xs)
  where
    go : (k : Bool) → length (kept b xs) ≤ length xs → length (cond k (x ∷ kept b xs) (kept b xs)) ≤ length (x ∷ xs)
    go true rest = omega (arith, rest)
    go false rest = omega (arith, rest)

not_between : (b : ℕ) (plate : List ℕ) (low high : ℕ) → b ≤ low → (s : EntryParts) → s.number < b → lies_between plate low high s ≡ false
not_between b plate low high above s under = rw (no) (mid_false (may_pair_of plate s) (nat_lt s.number high))
  where
    no : nat_lt low s.number ≡ false
    no = grind (arith, nat_tests)

same_partner : (b : ℕ) (es : List EntryParts) (f : EntryParts) → b ≤ f.number → (s : EntryParts) → is_partner (kept b es) s f ≡ is_partner es s f
same_partner b es f high s =
    ap (λ r. is_closing_kind s.kind && is_first_of s.plate f && nat_lt f.number s.number && not r)
    (any_kept b (lies_between s.plate f.number s.number) (lies_between s.plate f.number s.number) (λ x. refl) (not_between b s.plate f.number s.number high) es)

no_partner : (b : ℕ) (es : List EntryParts) (f : EntryParts) → b ≤ f.number → (s : EntryParts) → s.number < b → is_partner es s f ≡ false
no_partner b es f high s low = rw (no) (mid_false (is_closing_kind s.kind && is_first_of s.plate f) (not (list_any (lies_between s.plate f.number s.number) es)))
  where
    no : nat_lt f.number s.number ≡ false
    no = grind (arith, nat_tests)

-- a First that stays is open where it was
same_open : (b : ℕ) (es : List EntryParts) (f : EntryParts) → b ≤ f.number → is_open (kept b es) f ≡ is_open es f
unfolding is_open
same_open b es f high = ap (λ r. is_first_kind f.kind && not r) (any_kept b (λ s. is_partner (kept b es) s f) (λ s. is_partner es s f) (same_partner b es f high) (no_partner b es f high) es)

fewer : (b : ℕ) (es : List EntryParts) → places (kept b es) ≤ places es
fewer b es =
    let entries = length_kept b es in
    let firsts = count_kept b (is_open (kept b es)) (is_open es) (same_open b es) es in
    omega (arith, entries, firsts)

-- ---- every request

pub within_capacity : WithinCapacity
within_capacity w b request rising = go (comes w b request)
  where
    at_most : (a capacity c : ℕ) → a ≤ c → a ≤ max capacity c
    at_most a capacity c h = omega (arith, clamps, h)

    go : {o : Outcome} → Comes w b request o → places (entries_after o w.entries) ≤ max w.setup.capacity (places w.entries)
    go (stays none) = at_most (places w.entries) w.setup.capacity (places w.entries) (omega arith)
    go (adding asked e is one) = entry_more (asking_for asked w) e is rising
    go (purging ask count sound none) = at_most (places (kept b w.entries)) w.setup.capacity (places w.entries) (fewer b w.entries)

-- ---- partners

pub keeps_partners : KeepsPartners
keeps_partners w b rising bound e stays' = go (finding_in w.entries) refl stays'
  where
    go : (f : Finding) → finding_in w.entries ≡ f → Contains (entries_left w b Purge) e → partner_in (entries_left w b Purge) e ≡ partner_in w.entries e
    go (Sound count) is there =
        let here : Contains (kept b w.entries) e = rw is at there in
        let m = among_kept b w.entries e (among-contains e (kept b w.entries) here) in
        rw is (kept-partner w.entries (number_after w.entries w.spent) (day_of w.at) w.setup.retention_days b rising bound e m.0 m.1)
    go (Damaged number) is there = rw is refl
