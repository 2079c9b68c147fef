use Rattle.std.proofs.Common.{◌≡◌, ◌∙◌, sym, ap, Bool, true, false, not, ◌&&◌, ◌||◌, refl}
use Rattle.wb_office.proofs.Common.{option_copied, is_sound_entry, is_second_kind, holds_of}
use Rattle.wb_office.proofs.judging.is_damaged.Goals as goal

unsound : (x y z : Bool) → x ≡ true → x ≡ x || (y && z)
unsound x y z is = rw is refl

by_partner : (x y z : Bool) → x ≡ false → y ≡ true → z ≡ x || (y && z)
by_partner x y z sound second = rw (sound, second) refl

alone : (x y z : Bool) → x ≡ false → y ≡ false → y ≡ x || (y && z)
alone x y z sound second = rw (sound, second) refl

pub returns-then-not-is_sound : goal.returns-then-not-is_sound
returns-then-not-is_sound c =
    ap not c.is_sound.ensures
    ∙ unsound (not (is_sound_entry c.args.entry.now)) (is_second_kind c.args.entry.now.kind) (not (holds_of is_sound_entry (option_copied c.args.partner))) (ap not (sym c.is_sound.ensures ∙ c.if-not-is_sound.true))

pub returns-then-is_second : goal.returns-then-is_second
returns-then-is_second c =
    c.lacks_sound.ensures
    ∙ by_partner (not (is_sound_entry c.args.entry.now)) (is_second_kind c.args.entry.now.kind) (not (holds_of is_sound_entry (option_copied c.args.partner))) (ap not (sym c.is_sound.ensures ∙ c.if-not-is_sound.false))
    (ap is_second_kind (sym c.kind.ensures.value) ∙ sym c.is_second.ensures ∙ c.if-is_second.true)

pub returns-else-is_second : goal.returns-else-is_second
returns-else-is_second c =
    (c.is_second.ensures ∙ ap is_second_kind c.kind.ensures.value)
    ∙ alone (not (is_sound_entry c.args.entry.now)) (is_second_kind c.args.entry.now.kind) (not (holds_of is_sound_entry (option_copied c.args.partner))) (ap not (sym c.is_sound.ensures ∙ c.if-not-is_sound.false))
    (ap is_second_kind (sym c.kind.ensures.value) ∙ sym c.is_second.ensures ∙ c.if-is_second.false)
