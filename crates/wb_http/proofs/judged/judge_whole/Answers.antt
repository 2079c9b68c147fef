use Rattle.std.proofs.Common.{◌≡◌, ℕ, List, Bool, true, false, true≢false, Option, None, Some, Result, Err, ap, length, nat_lt, refl, subst, sym, ◌∙◌}
use Rattle.std.specs.Prelude.{IfNone, IfSome, IsErrOf, if◌then◌else◌}
use Rattle.wb_messages.specs.declared.request.Request.{Request}
use Rattle.wb_http.specs.declared.fault.HttpFault.{HttpFault}
use Rattle.wb_http.specs.declared.fault.HttpFault.TheVariants.{HeadTooLarge, Malformed, Memory}
use Rattle.wb_http.specs.HttpJudgement.{fault_without_head, judgement_of}
use Rattle.wb_http.specs.RequestBytes.{IsRead, ReadsAs, Received, fields}
use Rattle.wb_http.specs.Routes.{route_of_target}
use Rattle.wb_http.specs.UnlessMemoryRefused.{IsOf, WasJudged}
use Rattle.wb_http.specs.WholeRequests.{TellsWhole}
use Rattle.wb_http.specs.helpers.AskedByHead.{IsDecoded, answered_by, sought_on, whole_by}
use Rattle.wb_http.specs.helpers.LengthSaid.{said}
use Rattle.wb_http.proofs.judgement.AskedByHead.{judged_by_parts}
use Rattle.wb_http.proofs.judgement.FirstFaults.{wanted}
use Rattle.wb_http.proofs.judgement.WholeRequests.{whole_by_parts, whole_by_steps}
use Rattle.wb_http.proofs.judged.judge_whole.Goals as goal

module _ (bytes : List ℕ) (x : Received) (method target rest : List ℕ) (ps : List (List ℕ × List ℕ)) (reads : ReadsAs bytes x)
    (m : method ≡ x.head.method) (t : target ≡ x.head.target) (p : ps ≡ fields x) (r : rest ≡ x.rest) where
  tells : (whole : Bool) → whole_by (sought_on (route_of_target target) method (said ps)) rest ≡ whole → TellsWhole bytes whole
  tells whole is = (Some x, reads, sym is ∙ whole_by_parts x method target rest ps m t p r ∙ sym (whole_by_steps bytes x))

  was_judged : (result : Option (Result Request HttpFault)) → IfSome result (λ k. IsOf (answered_by (sought_on (route_of_target target) method (said ps)) target rest) k)
      → IfSome result (λ k. IsErrOf k Memory → IsDecoded (sought_on (route_of_target target) method (said ps)) rest)
      → IfSome result (λ _. whole_by (sought_on (route_of_target target) method (said ps)) rest ≡ true)
      → IfSome result (λ k. WasJudged bytes k × TellsWhole bytes true)
  was_judged None value memory whole = tt
  was_judged (Some k) value memory whole = (
    record {
      judged = (judgement_of x, (Some x, reads, refl), subst (λ (j : Result Request HttpFault). IsOf j k) (judged_by_parts x method target rest ps m t p r) value);
      memory = λ wants. wanted bytes x method target rest ps reads m t p r (memory wants);
    },
    tells true whole,
  )

  unfinished : (result : Option (Result Request HttpFault)) → IfNone result (whole_by (sought_on (route_of_target target) method (said ps)) rest ≡ false)
      → IfNone result (TellsWhole bytes false)
  unfinished None is = tells false is
  unfinished (Some k) is = tt

-- ---- without a head

long : (b : Bool) → (if b then HeadTooLarge else Malformed) ≡ HeadTooLarge → true ≡ b
long true is = refl
long false is = cc is

headless_judged : (bytes : List ℕ) (fault : HttpFault) → IsRead bytes None → fault ≡ fault_without_head bytes → fault ≡ HeadTooLarge
    → WasJudged bytes (Err fault) × TellsWhole bytes true
headless_judged bytes fault none is large =
    subst (λ (f : HttpFault). WasJudged bytes (Err f) × TellsWhole bytes true) (sym large) (
      record {
        judged = (Err (fault_without_head bytes), (None, none, refl), ap Err (sym is ∙ large));
        memory = λ wants. cc wants;
      },
      (None, none, long (nat_lt 8192 (length bytes)) (sym is ∙ large)),
    )

is_large : (bytes : List ℕ) (fault : HttpFault) (test : Bool) → fault ≡ fault_without_head bytes → (fault ≡ Malformed → test ≡ false) → test ≡ true → fault ≡ HeadTooLarge
is_large bytes fault test is other passed = by (nat_lt 8192 (length bytes)) is
  where
    by : (b : Bool) → fault ≡ (if b then HeadTooLarge else Malformed) → fault ≡ HeadTooLarge
    by true is = is
    by false is = absurd (true≢false (sym passed ∙ other is))

pub returns-in-Ok-clause-judged : goal.returns-in-Ok-clause-judged
returns-in-Ok-clause-judged g c =
    let x = c.in-Ok.ensures.read.0 in
    let there = c.in-Ok.ensures.read.1 in
    let parts = c.head_at.ensures.head x there in
    was_judged c.args.bytes.now x _ _ _ _ there.reads parts.method parts.target parts.fields parts.rest c.judge_body.result c.judge_body.ensures.value
    c.judge_body.ensures.memory c.judge_body.ensures.whole

pub returns-in-Ok-clause-unfinished : goal.returns-in-Ok-clause-unfinished
returns-in-Ok-clause-unfinished g c =
    let x = c.in-Ok.ensures.read.0 in
    let there = c.in-Ok.ensures.read.1 in
    let parts = c.head_at.ensures.head x there in
    unfinished c.args.bytes.now x _ _ _ _ there.reads parts.method parts.target parts.fields parts.rest c.judge_body.result c.judge_body.ensures.unfinished

pub returns-then-eq-clause-judged : goal.returns-then-eq-clause-judged
returns-then-eq-clause-judged g c =
    let none = c.in-Err.ensures.none in
    headless_judged c.args.bytes.now c.in-Err.fault none.0 none.1
    (is_large c.args.bytes.now c.in-Err.fault c.eq.result none.1 (λ malformed. rw malformed at c.eq.ensures) c.if-eq.true)
