-- `weighbridge_terminal_open` meets its contract: a walk of its code by hand, since it follows a raw pointer. A null is refused; else the setup is
-- judged, and where it is one, what `opened` makes is written into the room.
use Rattle.wb_terminal_c.proofs.Steps.{◌≡◌, ℕ, [], ◌∷◌, ◌++◌, refl, ap, w32, proved, full_share, id⊢, Fml, ftrue, flft, fex, fsep, named, vint, fact, tables, WpFn, ‵, raw, ◌⊛◌, some, later, at_ret, ◌$◌, ◌∵◌, !, qed, done, by, move, keep, drop, use1, use2, split, join, fsplit, fjoin, fpack, pick, await, rewrite, suffices, frame, group, enter, of_opd, lit, bin, stop, no_more, and_then, assigns_last, first, branches, skips, exec, returns, returns_within, alloc_all, pass_all, free_all, look_at, get, through, sets, lands_as, env, u32, yes, Is, shows, part_at, uint_Makes, Ptr, RawPtr, block_ptr, lies_at, rawptr_vals, rawptr_Tells, plain, nothing, owned, heard, peeks, only, calls_at, lasts, triple_of, framed, Stays, walk_of, says, stay_dropped, Goes-dropped, ends_at, part_in, owns, ShrRef, shr_vals, shr_Tells, room_at, init, lit<, if_non_null, null_ptr, Testable, tests_null, Logic, sem, SProp, ent, Ura, Model, Wired, Running, Lft, Share}
use Rattle.wb_instrument.specs.Setup.{Setup}
use Rattle.wb_terminal_c.specs.Keeps.{KeepsTerminal}
use Rattle.wb_terminal_c.specs.Placed.{room_for_terminal}
use Rattle.wb_terminal_c.specs.declared.handle.Handle.{Handle}
use Rattle.wb_terminal_c.specs.contracts.handle.Handle.{the_row}
use Rattle.wb_terminal_c.specs.contracts.exports.weighbridge_terminal_open as f
use Rattle.wb_terminal_c.proofs.exports.weighbridge_terminal_open.Statement.{statement}
use Rattle.wb_terminal_c.proofs.exports.weighbridge_terminal_open.Code as code
use Rattle.wb_terminal_c.specs.contracts.handle.fault as judge
use Rattle.wb_terminal_c.proofs.handle.fault.Met as judge_thm
use Rattle.wb_instrument.specs.Setup.{IsSetup}
use Rattle.wb_terminal_c.specs.Passed.{Opens, setup_passed}
use Rattle.wb_terminal_c.specs.declared.setup.Setup.{Setup as Passed}
use Rattle.wb_terminal_c.specs.contracts.setup.Setup.{the_row as setup_row}
use Rattle.wb_terminal_c.proofs.handle.Handle.TheLaws.{the_row_laws}
use Rattle.wb_terminal_c.proofs.setup.Setup.TheLaws.{the_row_laws as setup_laws}
use Rattle.wb_terminal_c.specs.contracts.handle.opened as make
use Rattle.wb_terminal_c.proofs.handle.opened.Met as make_thm
use contract.Monad.{fact_i}
use base.Logic.{emp}
use types.Kit.{use0}
use denote.Builtin.{RefOf}
use lib.Dec.{T, eqb→eq}
use mathlib.Core.Bool.{not}
use Rattle.std.specs.Prelude.{◌==◌, Bool, true, false}
use Rattle.wb_terminal_c.specs.Placed.{opened_or_room}
use types.Run.{assigns_last, init}
use borrow.Table.OneValue.{part_in}
use denote.Ref.{Bor, shr_copy}

holds : (b : Bool) → T b → true ≡ b
holds true t = refl
holds false t = absurd t

fails : (b : Bool) → T (not b) → false ≡ b
fails true t = absurd t
fails false t = refl

abbrev stayed : Stays f.ended.signature.params f.ended.kept
stayed = (stay_dropped _ yes, (stay_dropped _ yes, tt))

module _ {M : Type 1} (𝓤 : Ura M) (𝓛 : Logic 𝓤) (𝓜 : Model 𝓤 𝓛.H) (𝓡 : Running 𝓤 𝓛.H 𝓜) (wired : Wired 𝓡.env code.code) (κ : Lft) (q : Share) (setup : Bor Passed) where
  abbrev s : Setup
  s = setup_passed setup.now

  abbrev y : Ptr → (walk_of 𝓛 f.ended stayed (f.clauses 𝓛 𝓜.mem 𝓡.returns)).Ghost
  y p = (((κ, tt), (q, tt), tt, (p, (setup, tt)), (rawptr_vals p, (shr_vals setup, tt))), tt)

  abbrev Runs : Ptr → SProp 𝓤
  Runs p = WpFn 𝓤 𝓛.H (tables 𝓤 𝓛.H 𝓜 𝓡 𝓡.env).C (tables 𝓤 𝓛.H 𝓜 𝓡 𝓡.env).Λ code.function (rawptr_vals p ++ (shr_vals setup)) ((walk_of 𝓛 f.ended stayed (f.clauses 𝓛 𝓜.mem 𝓡.returns)).post (y p))

  abbrev passed : Fml
  passed = fsep ((ShrRef (named 0) κ setup_row).own_val setup (shr_vals setup)) (flft κ q)

  at : (p : Ptr) → Testable p → ent 𝓤 (sem 𝓛 (fsep (if_non_null p (room_for_terminal p)) passed)) (Runs p)
  at null_ptr may =
      let c = f.clauses 𝓛 𝓜.mem 𝓡.returns in
      qed 𝓛 (‵ (fsep ftrue passed) ∷ []) ∵ fsplit ! $ drop ! $ fsplit ! $ drop ! $
      -- [the setup's token]
      enter ! _ _ _ _ _ $ alloc_all ! (λ l. pass_all ! refl ((tt, record { fits = lit< tt }), ((tt, tt), tt)) $
      sets ! (bin ! (get ! refl) (lit ! tt) (tests_null null_ptr may)) refl (tt, tt) $
      first ! $ branches ! (get ! refl)
      (λ t. sets ! (of_opd ! (lit ! tt)) refl (tt, record { fits = lit< tt }) $
      returns_within ! ((walk_of 𝓛 f.ended stayed c).post (y null_ptr)) refl (look_at ! 0 refl) $ free_all ! refl $ keep ! (0 ∷ []) $
      suffices ! _ (ends_at 𝓛 f.ended stayed c (y null_ptr) (vint w32 10) 10 (tt, (tt, tt)) (tt, (tt, tt))) $
      nothing ! $ move ! (1 ∷ 0 ∷ []) $ join ! $ nothing ! $ nothing ! $ join ! $ nothing ! $ join ! $ owned ! u32 _ (uint_Makes 𝓛 w32) 10 _ (refl, lit< tt) $ nothing ! $ move ! (3 ∷ 2 ∷ 1 ∷ 0 ∷ []) $
      group ! 3 $ frame ! $ says ! refl $ done !)
      (λ t. absurd t))
  at (block_ptr b o) may =
      let c = f.clauses 𝓛 𝓜.mem 𝓡.returns in let 𝓣 = tables 𝓤 𝓛.H 𝓜 𝓡 𝓡.env in
      qed 𝓛 (‵ (fsep (room_at the_row (block_ptr b o)) passed) ∷ []) ∵ fsplit ! $ move ! (1 ∷ []) $ fsplit ! $
      -- [the setup; its token; the room]
      use1 𝓛 (‵ ((ShrRef (named 0) κ setup_row).own_val setup (shr_vals setup)) ⊛ ‵ ((ShrRef (named 0) κ setup_row).own_val setup (shr_vals setup))) ((shr_copy 𝓛 (named 0) κ setup_row (setup_laws.shr_laws)).twice setup (shr_vals setup)) $ split ! $
      enter ! _ _ _ _ _ $ alloc_all ! (λ l. pass_all ! refl ((tt, tt), ((tt, tt), tt)) $
      sets ! (bin ! (get ! refl) (lit ! tt) (tests_null (block_ptr b o) may)) refl (tt, tt) $
      first ! $ branches ! (get ! refl) (λ t. absurd t) (λ t. skips ! $
      exec ! 𝓣.C 𝓣.Λ (env code.Mir.locals l) code.Mir.t-3 (at_ret (env code.Mir.locals l) ((walk_of 𝓛 f.ended stayed c).post (y (block_ptr b o)))) $
      -- [the setup; the setup; its token; the room; the locals]
      let G₁ = triple_of 𝓛 judge.signature (judge.spec 𝓛 𝓜.mem 𝓡.returns) in
      let z₁ : G₁.Ghost = (((κ, tt), (q, tt), tt, (setup, tt), (shr_vals setup, tt)), tt) in
      move ! (0 ∷ 2 ∷ []) $ nothing ! $ move ! (1 ∷ 0 ∷ []) $ fjoin ! $ nothing ! $ move ! (2 ∷ 0 ∷ []) $ join ! $ join ! $ nothing ! $ move ! (1 ∷ 0 ∷ []) $ join ! $
      use1 𝓛 (raw (G₁.pre z₁)) (id⊢ 𝓤 _) $
      calls_at ! (framed 𝓤 𝓛.H 𝓜 (tables 𝓤 𝓛.H 𝓜 𝓡 𝓡.env)) G₁ (judge_thm.met 𝓤 𝓛 𝓜 𝓡 (code.calls-wb_terminal_c::handle::fault 𝓡.env wired)) z₁
      (and_then ! (get ! refl) (no_more !)) (λ v.
      use1 𝓛 (later (some (λ (r : ℕ). ((‵ (flft κ q) ⊛ ‵ ftrue) ⊛ ‵ (u32.own_val r (v ∷ []))) ⊛
      some (λ (ws : Unit {0} × Unit {0}). ‵ (lasts judge.ended z₁.0.0 z₁.0.3 ws) ⊛ raw (fact 𝓤 (Opens s r)))))) (id⊢ 𝓤 _) $
      await ! tt $ pick ! (λ r. split ! $ split ! $ split ! $ move ! (3 ∷ []) $ pick ! (λ ws. split ! $ move ! (1 ∷ []) $ heard ! _ (λ opens. drop ! $
      -- [the token; nothing; the answer; the setup; the room; the locals]
      move ! (2 ∷ []) $ peeks ! u32 (Is u32) (shows 𝓛 u32) r (v ∷ []) (λ is. lands_as ! (ap only is.0) refl (tt, record { fits = is.1 }) $
      -- [the answer; the token; nothing; the setup; the room; the locals]
      sets ! (bin ! (get ! refl) (lit ! tt) tt) refl (tt, tt) $
      first ! $ branches ! (get ! refl)
      (λ t'.
      let e : true ≡ (r == 0) = holds (r == 0) t' in
      let good-setup : IsSetup s = opens.accepted (eqb→eq r 0 t') in
      sets ! (of_opd ! (get ! refl)) refl (tt, tt) $
      let G₂ = triple_of 𝓛 make.signature (make.spec 𝓛 𝓜.mem 𝓡.returns) in
      let z₂ : G₂.Ghost = (((κ, tt), (q, tt), tt, (setup, tt), (shr_vals setup, tt)), tt) in
      move ! (3 ∷ 1 ∷ []) $ nothing ! $ move ! (1 ∷ 0 ∷ []) $ fjoin ! $ nothing ! $ move ! (2 ∷ 0 ∷ []) $ join ! $ join ! $
      use0 𝓛 (raw (fact 𝓤 (IsSetup s))) (fact_i 𝓤 (IsSetup s) (emp 𝓤) good-setup) $ move ! (1 ∷ 0 ∷ []) $ join ! $ use1 𝓛 (raw (G₂.pre z₂)) (id⊢ 𝓤 _) $
      calls_at ! (framed 𝓤 𝓛.H 𝓜 (tables 𝓤 𝓛.H 𝓜 𝓡 𝓡.env)) G₂ (make_thm.met 𝓤 𝓛 𝓜 𝓡 (code.calls-wb_terminal_c::handle::opened 𝓡.env wired)) z₂
      (and_then ! (get ! refl) (no_more !)) (λ u.
      use1 𝓛 (later (some (λ (made : Handle). ((‵ (flft κ q) ⊛ ‵ ftrue) ⊛ ‵ (the_row.own_val made (u ∷ []))) ⊛
      some (λ (ws' : Unit {0} × Unit {0}). ‵ (lasts make.ended z₂.0.0 z₂.0.3 ws') ⊛ raw (fact 𝓤 (KeepsTerminal made s [])))))) (id⊢ 𝓤 _) $
      await ! tt $ pick ! (λ made. split ! $ split ! $ split ! $ move ! (3 ∷ []) $ pick ! (λ ws'. split ! $ move ! (1 ∷ []) $ heard ! _ (λ keeps. drop ! $
      -- [the token; nothing; what was made; the answer; nothing; the room; the locals]
      move ! (2 ∷ []) $ peeks ! the_row (Is the_row) (shows 𝓛 the_row) made (u ∷ []) (λ is'.
      let good = ((the_row_laws.lawful 𝓛).typed made _ is').0 in
      lands_as ! refl refl good $
      move ! (5 ∷ []) $ assigns_last ! (of_opd ! (get ! refl)) (through ! refl (stop !)) (init ! 0 refl good) $
      use2 𝓛 (‵ (part_at the_row full_share made b o)) (part_in 𝓛 the_row refl full_share made b o u) $
      exec ! 𝓣.C 𝓣.Λ (env code.Mir.locals l) code.Mir.t-6 (at_ret (env code.Mir.locals l) ((walk_of 𝓛 f.ended stayed c).post (y (block_ptr b o)))) $
      sets ! (of_opd ! (get ! refl)) refl (tt, record { fits = is.1 }) $
      -- [the terminal; the token; nothing; the answer; ..]
      returns ! (look_at ! 0 refl) $ free_all ! refl $ keep ! (0 ∷ 1 ∷ []) $
      suffices ! _ (ends_at 𝓛 f.ended stayed c (y (block_ptr b o)) (vint w32 r) r (tt, (tt, tt)) (tt, (tt, tt))) $
      nothing ! $ fpack ! (KeepsTerminal made s []) (λ _. ftrue) keeps $ move ! (1 ∷ 0 ∷ []) $ fjoin ! $
      fpack ! Handle (λ x. fsep (lies_at the_row full_share (block_ptr b o) x) (fex (KeepsTerminal x s []) (λ _. ftrue))) made $
      rewrite ! 0 (λ (k : Bool). ‵ (opened_or_room k s (block_ptr b o))) e refl $
      move ! (1 ∷ []) $ nothing ! $ move ! (1 ∷ 0 ∷ []) $ join ! $ nothing ! $ nothing ! $ join ! $ nothing ! $ join ! $
      owned ! u32 _ (uint_Makes 𝓛 w32) r _ (refl, is.1) $ move ! (2 ∷ 1 ∷ 0 ∷ []) $ group ! 3 $ frame ! $ says ! opens $ done !))))))
      (λ t'. skips ! $
      exec ! 𝓣.C 𝓣.Λ (env code.Mir.locals l) code.Mir.t-6 (at_ret (env code.Mir.locals l) ((walk_of 𝓛 f.ended stayed c).post (y (block_ptr b o)))) $
      sets ! (of_opd ! (get ! refl)) refl (tt, record { fits = is.1 }) $
      -- [the answer; the token; nothing; the setup; the room; the locals]
      returns ! (look_at ! 0 refl) $ free_all ! refl $ keep ! (4 ∷ 1 ∷ []) $
      suffices ! _ (ends_at 𝓛 f.ended stayed c (y (block_ptr b o)) (vint w32 r) r (tt, (tt, tt)) (tt, (tt, tt))) $
      rewrite ! 0 (λ (k : Bool). ‵ (opened_or_room k s (block_ptr b o))) (fails (r == 0) t') refl $
      move ! (1 ∷ []) $ nothing ! $ move ! (1 ∷ 0 ∷ []) $ join ! $ nothing ! $ nothing ! $ join ! $ nothing ! $ join ! $
      owned ! u32 _ (uint_Makes 𝓛 w32) r _ (refl, is.1) $ move ! (2 ∷ 1 ∷ 0 ∷ []) $ group ! 3 $ frame ! $ says ! opens $ done !))))))))

pub weighbridge_terminal_open_spec : {M : Type 1} → statement M
weighbridge_terminal_open_spec 𝓤 𝓛 𝓜 𝓡 wired =
    let c = f.clauses 𝓛 𝓜.mem 𝓡.returns in
    proved 𝓛 f.ended stayed c 𝓜 𝓡 (Goes-dropped 𝓛 1 (plain (λ _. RawPtr)) yes (λ κs x w. refl), (Goes-dropped 𝓛 1 (RefOf {n = 1} (0 ∷ []) tt (plain {n = 1} (λ κs. setup_row)) (λ κs. tt)) yes (λ κs x w. refl), tt))
    f.Key.name code.function (code.unfolded 𝓤 𝓛.H 𝓜 𝓡 wired)
    (λ κs. (rawptr_vals, (shr_vals, tt))) (λ κs. (rawptr_Tells, (shr_Tells (named 0) κs.0 setup_row, tt))) (λ κs qs bounds a ghosts are.
    let κ = κs.0 in let q = qs.0 in let setup = a.1.0 in
    qed 𝓛 (((‵ (flft κ q) ⊛ ‵ ftrue) ⊛ ‵ (owns (RawPtr ∷ ShrRef (named 0) κ setup_row ∷ []) (a.0, (setup, tt)) (rawptr_vals a.0, (shr_vals setup, tt))))
    ∷ (raw (fact 𝓤 (Testable a.0)) ⊛ ‵ (if_non_null a.0 (room_for_terminal a.0))) ∷ []) ∵
    split ! $ split ! $ move ! (2 ∷ []) $ fsplit ! $ drop ! $ fsplit ! $ keep ! (4 ∷ 0 ∷ 2 ∷ []) $
    -- [the room; the setup; its token]
    split ! $ heard ! _ (λ may. move ! (1 ∷ 2 ∷ []) $ fjoin ! $ move ! (1 ∷ 0 ∷ []) $ fjoin ! $
    by ! (at 𝓤 𝓛 𝓜 𝓡 wired κ q setup a.0 may)))
