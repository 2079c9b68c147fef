use Rattle.std.proofs.Common.{◌≡◌, ◌∙◌, ap₂, false, refl, rules, sym, true, true≢false}
use Rattle.std.specs.List.{list_any}
use Rattle.std.specs.Option.{option_copied}
use Rattle.wb_tables.specs.Lists.{IsNext, has_key, is_spent, newest_entry, number_after, previous_after}
use Rattle.wb_store_uses.proofs.Callers.{left, none_passes, not_next, some_passes}
use Rattle.wb_store_uses.proofs.add_if_free.Goals as goal

pub returns-then-is_some : goal.returns-then-is_some
returns-then-is_some g c = λ es ks s h.
    let first = left g.D.Store c.in_ok-by_key.ensures.keeps c.in_ok-by_key.ensures.closes s h in
    let found = c.in_ok-by_key.ensures.found es ks s h in
    let stands : list_any (has_key c.args.entry.now.key) es ≡ true = some_passes (has_key c.args.entry.now.key) es (rw (found, c.key.ensures.value) at (sym c.is_some.ensures ∙ c.if-is_some.true)) in
    (first.0, first.1, not_next (λ is. true≢false (sym stands ∙ is.free)))

pub returns-then-branch : goal.returns-then-branch
returns-then-branch g c = λ es ks s h2.
    let first = left g.D.Store c.in_ok-by_key.ensures.keeps c.in_ok-by_key.ensures.closes s (c.in_ok-spent.ensures.closes.honest h2) in
    let second = left g.D.Store c.in_ok-spent.ensures.keeps c.in_ok-spent.ensures.closes first.0 h2 in
    let gone = c.in_ok-spent.ensures.found es ks first.0 h2 in
    let spent : is_spent ks c.args.entry.now.key ≡ true = rw c.key-2.ensures.value at (sym gone ∙ c.if-branch.true) in
    (second.0, second.1, not_next (λ is. true≢false (sym spent ∙ is.unspent)))

pub returns-then-branch-from : goal.returns-then-branch-from
returns-then-branch-from g c = λ es ks s h3.
    let h2 = c.in_ok-next_number.ensures.closes.honest h3 in
    let first = left g.D.Store c.in_ok-by_key.ensures.keeps c.in_ok-by_key.ensures.closes s (c.in_ok-spent.ensures.closes.honest h2) in
    let second = left g.D.Store c.in_ok-spent.ensures.keeps c.in_ok-spent.ensures.closes first.0 h2 in
    let third = left g.D.Store c.in_ok-next_number.ensures.keeps c.in_ok-next_number.ensures.closes second.0 h3 in
    let next = c.in_ok-next_number.ensures.found es ks second.0 h3 in
    (third.0, third.1, not_next (λ is. search (rules, next, c.number.ensures.value, c.from.ensures, c.if-branch-from.true, is.number)))

pub returns-then-ne : goal.returns-then-ne
returns-then-ne g c = λ es ks s h4.
    let h3 = c.in_ok-newest.ensures.closes.honest h4 in
    let h2 = c.in_ok-next_number.ensures.closes.honest h3 in
    let first = left g.D.Store c.in_ok-by_key.ensures.keeps c.in_ok-by_key.ensures.closes s (c.in_ok-spent.ensures.closes.honest h2) in
    let second = left g.D.Store c.in_ok-spent.ensures.keeps c.in_ok-spent.ensures.closes first.0 h2 in
    let third = left g.D.Store c.in_ok-next_number.ensures.keeps c.in_ok-next_number.ensures.closes second.0 h3 in
    let fourth = left g.D.Store c.in_ok-newest.ensures.keeps c.in_ok-newest.ensures.closes third.0 h4 in
    let newest = c.in_ok-newest.ensures.found es ks third.0 h4 in
    let held : option_copied c.as_ref.result ≡ newest_entry es = c.as_ref.ensures.value ∙ newest in
    let previous : c.previous_of-previous.result ≡ previous_after (newest_entry es) c.args.entry.now.number = c.previous_of-previous.ensures ∙ ap₂ previous_after held c.number-2.ensures.value in (
      fourth.0,
      fourth.1,
      not_next (λ is.
          let same : c.previous.result.now ≡ c.previous_of-previous.result = c.previous.ensures.value ∙ is.linked ∙ sym previous in
          search (rules, same, c.as_str.ensures.value, c.as_str-2.ensures.value, c.ne.ensures, c.if-ne.true, c.if-ne.ensures)),
    )

pub returns : goal.returns
returns g c = λ es ks s h.
    let h4 = c.in_ok-append.ensures.closes.honest h in
    let h3 = c.in_ok-newest.ensures.closes.honest h4 in
    let h2 = c.in_ok-next_number.ensures.closes.honest h3 in
    let h1 = c.in_ok-spent.ensures.closes.honest h2 in
    let first = left g.D.Store c.in_ok-by_key.ensures.keeps c.in_ok-by_key.ensures.closes s h1 in
    let second = left g.D.Store c.in_ok-spent.ensures.keeps c.in_ok-spent.ensures.closes first.0 h2 in
    let third = left g.D.Store c.in_ok-next_number.ensures.keeps c.in_ok-next_number.ensures.closes second.0 h3 in
    let fourth = left g.D.Store c.in_ok-newest.ensures.keeps c.in_ok-newest.ensures.closes third.0 h4 in
    let found = c.in_ok-by_key.ensures.found es ks s h1 in
    let gone = c.in_ok-spent.ensures.found es ks first.0 h2 in
    let next = c.in_ok-next_number.ensures.found es ks second.0 h3 in
    let newest = c.in_ok-newest.ensures.found es ks third.0 h4 in
    let number : c.args.entry.now.number ≡ number_after es ks = search (rules, next, c.number.ensures.value, c.from.ensures, c.if-branch-from.false) in
    let free : list_any (has_key c.args.entry.now.key) es ≡ false = none_passes (has_key c.args.entry.now.key) es (rw (found, c.key.ensures.value) at (sym c.is_some.ensures ∙ c.if-is_some.false)) in
    let unspent : is_spent ks c.args.entry.now.key ≡ false = rw c.key-2.ensures.value at (sym gone ∙ c.if-branch.false) in
    let held : option_copied c.as_ref.result ≡ newest_entry es = c.as_ref.ensures.value ∙ newest in
    let previous : c.previous_of-previous.result ≡ previous_after (newest_entry es) c.args.entry.now.number = c.previous_of-previous.ensures ∙ ap₂ previous_after held c.number-2.ensures.value in
    let same : c.previous.result.now ≡ c.previous_of-previous.result = search (rules, c.as_str.ensures.value, c.as_str-2.ensures.value, c.ne.ensures, c.if-ne.false, c.if-ne.ensures) in
    let linked : c.args.entry.now.previous ≡ previous_after (newest_entry es) c.args.entry.now.number = sym c.previous.ensures.value ∙ same ∙ previous in
    let is : IsNext es ks c.args.entry.now = record { number = number; free = free; unspent = unspent; linked = linked } in
    let after = c.in_ok-append.ensures.added es ks fourth.0 is h in
    (after.0, after.1, (λ _. is, λ _. refl))
