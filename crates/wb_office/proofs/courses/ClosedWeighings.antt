-- A First is closed at most once, and what closes it has it as its partner.
use Rattle.std.proofs.Common.{◌≡◌, ◌∙◌, sym, ◌⊎◌, inl, inr, ◌<◌, ◌≤◌, Bool, true, false, true≢false, not, ◌&&◌, nat_lt, List, Option, Some, None, refl, arith}
use Rattle.wb_office.proofs.Common.{and_parts, and_from, not-true, lt-ltb, ltb-true, ltb-false, bytes_eq-Decides, list_any, is_none, bytes_eq, EntryParts, Kind, First, Second, Single, Void, is_closing_kind, is_first_kind, is_single_kind, is_first_of, is_partner, lies_between, may_pair_of, partner_in, Among, among-contains, find-among, has_key, additions, after, ClosingsHavePartners, FirstsClosedOnce}
use Rattle.wb_office.proofs.Members.{some_passes}
use Rattle.wb_office.proofs.courses.KnownEntries.{IsLasting, added_lasts}
use Rattle.wb_office.proofs.courses.StoredEntries.{IsPast, IsStored}

-- what closes a First: it is of its plate, above it, and nothing of the plate lies between
record IsClosedBy (es : List EntryParts) (f s : EntryParts) : Type 0 where
  pub closing : is_closing_kind s.kind ≡ true
  pub plate : f.plate ≡ s.plate
  pub above : f.number < s.number
  pub clear : list_any (lies_between s.plate f.number s.number) es ≡ false

closed_by : (es : List EntryParts) (f s : EntryParts) → partner_in es s ≡ Some f → IsClosedBy es f s
unfolding partner_in
closed_by es f s is =
    let test = (find-among (is_partner es s) es f is).1 in
    let four = and_parts (is_closing_kind s.kind && is_first_of s.plate f && nat_lt f.number s.number) (not (list_any (lies_between s.plate f.number s.number) es)) test in
    let three = and_parts (is_closing_kind s.kind && is_first_of s.plate f) (nat_lt f.number s.number) four.0 in
    let two = and_parts (is_closing_kind s.kind) (is_first_of s.plate f) three.0 in
    record {
      closing = two.0;
      plate = (bytes_eq-Decides f.plate s.plate).0 (and_parts (is_first_kind f.kind) (bytes_eq f.plate s.plate) two.1).1;
      above = ltb-true f.number s.number three.1;
      clear = not-true (list_any (lies_between s.plate f.number s.number) es) four.1;
    }

closing_pairs : (k : Kind) → is_closing_kind k ≡ true → not (is_single_kind k) ≡ true
closing_pairs First c = absurd (true≢false (sym c))
closing_pairs Second c = refl
closing_pairs Single c = absurd (true≢false (sym c))
closing_pairs Void c = refl

-- one that closes it doesn't lie between it and another that does
not_between : (es : List EntryParts) (f s t : EntryParts) → Among s es → IsClosedBy es f s → IsClosedBy es f t → s.number < t.number → ⊥
not_between es f s t m one other below = true≢false (sym lies ∙ other.clear)
  where
    lies : list_any (lies_between t.plate f.number t.number) es ≡ true
    lies =
        some_passes (lies_between t.plate f.number t.number) s es m
        (and_from (may_pair_of t.plate s && nat_lt f.number s.number) (nat_lt s.number t.number)
        (and_from (may_pair_of t.plate s) (nat_lt f.number s.number)
        (and_from (not (is_single_kind s.kind)) (bytes_eq s.plate t.plate) (closing_pairs s.kind one.closing) ((bytes_eq-Decides s.plate t.plate).1 (sym one.plate ∙ other.plate)))
        (lt-ltb f.number s.number one.above)) (lt-ltb s.number t.number below))

pub firsts_closed_once : FirstsClosedOnce
firsts_closed_once es f s t is_s closes_s is_t closes_t = order (nat_lt s.number t.number) refl (nat_lt t.number s.number) refl
  where
    one : IsClosedBy es f s
    one = closed_by es f s closes_s

    other : IsClosedBy es f t
    other = closed_by es f t closes_t

    order : (b : Bool) → nat_lt s.number t.number ≡ b → (c : Bool) → nat_lt t.number s.number ≡ c → s.number ≡ t.number
    order true below c over = absurd (not_between es f s t (among-contains s es is_s) one other (ltb-true s.number t.number below))
    order false below true over = absurd (not_between es f t s (among-contains t es is_t) other one (ltb-true t.number s.number over))
    order false below false over =
        let low : t.number ≤ s.number = ltb-false s.number t.number below in
        let high : s.number ≤ t.number = ltb-false t.number s.number over in
        omega (arith, low, high)

some_partner : (o : Option EntryParts) → is_none o ≡ false → (f : EntryParts) × (o ≡ Some f)
some_partner None there = absurd (true≢false there)
some_partner (Some f) there = (f, refl)

pub closings_have_partners : ClosingsHavePartners
closings_have_partners j ts lists bounds e added closing stands = go last.known.state
  where
    last : IsLasting (after j ts) e
    last = added_lasts j ts e lists.rising bounds (among-contains e (additions j ts) added)

    go : IsStored (after j ts).entries (after j ts).spent e last.first ⊎ IsPast (after j ts).entries (after j ts).spent e → (f : EntryParts) × (partner_in (after j ts).entries e ≡ Some f)
    go (inl stored) = let some = some_partner last.first (last.closes closing) in (some.0, stored.paired ∙ some.1)
    go (inr past) =
        absurd (true≢false (sym (some_passes (has_key e.key) e (after j ts).entries (among-contains e (after j ts).entries stands) ((bytes_eq-Decides e.key e.key).1 refl)) ∙ past.absent))
