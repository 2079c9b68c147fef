-- `weighbridge_terminal_indicate` meets its contract: a walk of its code by hand, since it follows a raw pointer. A null is refused; else the
-- terminal is lent for the call of `indicate`, and comes back at its last value,
-- and the indication is given to it for good.
use Rattle.wb_terminal_c.proofs.Steps.{◌≡◌, ℕ, subst, List, [], ◌∷◌, ◌++◌, refl, sym, w32, MutBor, proved, full_share, id⊢, Fml, ftrue, flft, fres, flent, fex, fsep, named, vint, vptr, fact, tables, WpFn, ‵, raw, ◌⊛◌, some, later, at_ret, ◌$◌, ◌∵◌, !, qed, done, by, move, keep, drop, use1, use3, split, join, fsplit, fsplit3, fjoin, fpack, fpick, pick, await, suffices, frame, group, enter, of_opd, lit, bin, addr, stop, no_more, and_then, first, branches, skips, exec, returns, returns_within, alloc_all, pass_all, free_all, look_at, get, through, sets, lands_as, env, Body, lft_new, lft_end, u32, yes, Is, shows, mem, part_at, uint_Makes, uint_Lawful, Ptr, RawPtr, block_ptr, lies_at, rawptr_vals, rawptr_Tells, MutRef, mut_vals, mut_Tells, lends_ref, ref_back, plain, nothing, owned, heard, peeks, calls_at, lasts, triple_of, framed, Stays, walk_of, says, stay_dropped, Goes-dropped, ends_at, owns, lit<, if_non_null, null_ptr, Testable, tests_null, Logic, sem, SProp, ent, Ura, Model, Wired, Running, Lft, Share, gave_ref, Goes-gave_ref}
use Rattle.wb_instrument.specs.Setup.{Setup}
use Rattle.wb_sics.specs.Event.{TerminalEvent}
use Rattle.wb_terminal_c.specs.Keeps.{KeepsTerminal}
use Rattle.wb_terminal_c.specs.Placed.{terminal_at}
use Rattle.wb_terminal_c.specs.declared.handle.Handle.{Handle}
use Rattle.wb_terminal_c.specs.contracts.handle.Handle.{the_row}
use Rattle.wb_terminal_c.specs.contracts.exports.weighbridge_terminal_indicate as f
use Rattle.wb_terminal_c.proofs.exports.weighbridge_terminal_indicate.Statement.{statement}
use Rattle.wb_terminal_c.proofs.exports.weighbridge_terminal_indicate.Code as code
use Rattle.wb_terminal_c.specs.contracts.handle.indicate as g
use Rattle.wb_terminal_c.proofs.handle.indicate.Met.{met}
use Rattle.wb_terminal_c.specs.Shown.{indication_after}
use Rattle.wb_terminal_c.specs.declared.indication.Indication.{Indication}
use Rattle.wb_terminal_c.specs.contracts.indication.Indication.{the_row as indication_row}

abbrev stayed : Stays f.ended.signature.params f.ended.kept
stayed = (stay_dropped _ yes, (gave_ref (0 ∷ []) tt (plain (λ _. indication_row)), tt))

module _ {M : Type 1} (𝓤 : Ura M) (𝓛 : Logic 𝓤) (𝓜 : Model 𝓤 𝓛.H) (𝓡 : Running 𝓤 𝓛.H 𝓜) (wired : Wired 𝓡.env code.code) (κ : Lft) (q : Share) (shown : MutBor Indication) (s : Setup) (h : List TerminalEvent) where
  abbrev y : Ptr → (walk_of 𝓛 f.ended stayed (f.clauses 𝓛 𝓜.mem 𝓡.returns)).Ghost
  y p = (((κ, tt), (q, tt), tt, (p, (shown, tt)), (rawptr_vals p, (mut_vals shown, tt))), (s, h))

  abbrev Runs : Ptr → SProp 𝓤
  Runs p = WpFn 𝓤 𝓛.H (tables 𝓤 𝓛.H 𝓜 𝓡 𝓡.env).C (tables 𝓤 𝓛.H 𝓜 𝓡 𝓡.env).Λ code.function (rawptr_vals p ++ (mut_vals shown)) ((walk_of 𝓛 f.ended stayed (f.clauses 𝓛 𝓜.mem 𝓡.returns)).post (y p))

  abbrev passed : Fml
  passed = fsep ((MutRef (named 0) κ indication_row).own_val shown (mut_vals shown)) (flft κ q)

  at : (p : Ptr) → Testable p → ent 𝓤 (sem 𝓛 (fsep (if_non_null p (terminal_at s h p)) passed)) (Runs p)
  at null_ptr may =
      let c = f.clauses 𝓛 𝓜.mem 𝓡.returns in
      qed 𝓛 (‵ (fsep ftrue passed) ∷ []) ∵ fsplit ! $ drop ! $ fsplit ! $
      -- [the indication; its token]
      enter ! _ _ _ _ _ $ alloc_all ! (λ l. pass_all ! refl ((tt, record { fits = lit< tt }), ((tt, tt), tt)) $
      sets ! (bin ! (get ! refl) (lit ! tt) (tests_null null_ptr may)) refl (tt, tt) $
      first ! $ branches ! (get ! refl)
      (λ t. sets ! (of_opd ! (lit ! tt)) refl (tt, record { fits = lit< tt }) $
      returns_within ! ((walk_of 𝓛 f.ended stayed c).post (y null_ptr)) refl (look_at ! 0 refl) $ free_all ! refl $ keep ! (0 ∷ 1 ∷ []) $
      suffices ! _ (ends_at 𝓛 f.ended stayed c (y null_ptr) (vint w32 10) 10 (tt, (shown.now, tt)) (tt, (tt, tt))) $
      fsplit3 ! $ move ! (1 ∷ []) $ use1 𝓛 (‵ (fres shown.ghost_name (indication_row.coded.code shown.now))) (𝓛.names.obs-res shown.ghost_name (indication_row.coded.code shown.now)) $ keep ! (0 ∷ 2 ∷ 3 ∷ []) $ fjoin ! $
      -- [the indication; its token]
      nothing ! $ move ! (1 ∷ 0 ∷ []) $ join ! $ nothing ! $ join ! $
      move ! (1 ∷ []) $ nothing ! $ move ! (1 ∷ 0 ∷ []) $ join ! $ owned ! u32 _ (uint_Makes 𝓛 w32) 10 _ (refl, lit< tt) $ nothing ! $ move ! (2 ∷ 3 ∷ 1 ∷ 0 ∷ []) $
      group ! 3 $ frame ! $ says ! (refl, refl) $ done !)
      (λ t. absurd t))
  at (block_ptr b o) may =
      let c = f.clauses 𝓛 𝓜.mem 𝓡.returns in let 𝓣 = tables 𝓤 𝓛.H 𝓜 𝓡 𝓡.env in
      qed 𝓛 (‵ (fsep (terminal_at s h (block_ptr b o)) passed) ∷ []) ∵ fsplit ! $ move ! (1 ∷ []) $ fsplit ! $ move ! (2 ∷ []) $
      fpick ! (λ old. fsplit ! $ move ! (1 ∷ []) $ fpick ! (λ keeps. drop ! $
      -- [the handle; the indication; its token]
      enter ! _ _ _ _ _ $ alloc_all ! (λ l. pass_all ! refl ((tt, tt), ((tt, tt), tt)) $
      sets ! (bin ! (get ! refl) (lit ! tt) (tests_null (block_ptr b o) may)) refl (tt, tt) $
      first ! $ branches ! (get ! refl) (λ t. absurd t) (λ t. skips ! $
      exec ! 𝓣.C 𝓣.Λ (env code.Mir.locals l) code.Mir.t-3 (at_ret _ ((walk_of 𝓛 f.ended stayed c).post (y (block_ptr b o)))) $
      sets ! (of_opd ! (get ! refl)) refl (tt, tt) $
      sets ! (addr ! (through ! refl (stop !))) refl (tt, tt) $
      sets ! (addr ! (through ! refl (stop !))) refl (tt, tt) $
      lft_new ! tt (λ α. move ! (1 ∷ []) $
      use1 𝓛 (later (some (λ (γ : ℕ). ‵ ((MutRef (named 0) (α ∷ []) the_row).own_val (record { ref_ptr = (b, o); ghost_name = γ; now = old }) (vptr b o ∷ [])) ⊛ ‵ (flent (α ∷ []) (Body (mem the_row) b o γ)))))
      (lends_ref 𝓛 the_row (named 0) (α ∷ []) old b o) $ await ! tt $ pick ! (λ γ. split ! $
      -- [the loan; the lender's part; the loan's token; the indication; its token; the locals]
      let G = triple_of 𝓛 g.signature (g.spec 𝓛 𝓜.mem 𝓡.returns) in
      let z : G.Ghost = (((α ∷ [], (κ, tt)), (full_share, (q, tt)), tt, (record { ref_ptr = (b, o); ghost_name = γ; now = old }, (shown, tt)), (vptr b o ∷ [], (mut_vals shown, tt))), tt) in
      move ! (3 ∷ []) $ nothing ! $ move ! (1 ∷ 0 ∷ []) $ fjoin ! $ move ! (1 ∷ 0 ∷ []) $ fjoin ! $
      -- [what is passed; the lender's part; the loan's token; the indication's; the locals]
      move ! (3 ∷ []) $ nothing ! $ move ! (1 ∷ 0 ∷ []) $ join ! $ move ! (3 ∷ 0 ∷ []) $ join ! $ join ! $ nothing ! $ move ! (1 ∷ 0 ∷ []) $ join ! $ use1 𝓛 (raw (G.pre z)) (id⊢ 𝓤 _) $
      calls_at ! (framed 𝓤 𝓛.H 𝓜 (tables 𝓤 𝓛.H 𝓜 𝓡 𝓡.env)) G (met 𝓤 𝓛 𝓜 𝓡 (code.calls-wb_terminal_c::handle::indicate 𝓡.env wired)) z
      (and_then ! (get ! refl) (and_then ! (get ! refl) (no_more !))) (λ v.
      use1 𝓛 (later (some (λ (r : ℕ). ((‵ (flft (α ∷ []) full_share) ⊛ (‵ (flft κ q) ⊛ ‵ ftrue)) ⊛ ‵ (u32.own_val r (v ∷ []))) ⊛
      some (λ (ws : Handle × (Indication × Unit {0})). ‵ (lasts g.ended z.0.0 z.0.3 ws) ⊛ (raw (fact 𝓤 ((i : Setup) (j : List TerminalEvent) → KeepsTerminal old i j → ws.1.0 ≡ indication_after i j))
      ⊛ (raw (fact 𝓤 (ws.0 ≡ old)) ⊛ raw (fact 𝓤 (r ≡ 0)))))))) (id⊢ 𝓤 _) $
      await ! tt $ pick ! (λ r. split ! $ split ! $ split ! $ lft_end ! tt $ move ! (2 ∷ []) $
      peeks ! u32 (Is u32) (shows 𝓛 u32) r (v ∷ []) (λ is. lands_as ! refl refl ((uint_Lawful 𝓛 w32).typed r _ is).0 $
      move ! (3 ∷ []) $ pick ! (λ ws. split ! $ move ! (1 ∷ []) $ split ! $ heard ! _ (λ told. split ! $ heard ! _ (λ same. heard ! _ (λ zero. fsplit ! $ fsplit ! $
      -- [the handle's last value; its borrow; the rest; the result; the loan is over; the indication's token; the lender's part; the locals]
      move ! (4 ∷ 6 ∷ 0 ∷ []) $ use3 𝓛 (later (‵ (part_at the_row full_share ws.0 b o))) (ref_back 𝓛 the_row (α ∷ []) γ ws.0 b o) $ await ! tt $
      move ! (2 ∷ []) $ fsplit ! $
      -- [the indication; nothing; the handle; its borrow; the result; the indication's token; the locals]
      returns ! (look_at ! 0 refl) $ free_all ! refl $ keep ! (2 ∷ 4 ∷ 0 ∷ 5 ∷ []) $
      suffices ! _ (ends_at 𝓛 f.ended stayed c (y (block_ptr b o)) v r (tt, (ws.1.0, tt)) (tt, (tt, tt))) $
      let kept : KeepsTerminal ws.0 s h = subst (λ (x : Handle). KeepsTerminal x s h) (sym same) keeps in
      nothing ! $ fpack ! (KeepsTerminal ws.0 s h) (λ _. ftrue) kept $ move ! (1 ∷ 0 ∷ []) $ fjoin ! $
      fpack ! Handle (λ x. fsep (lies_at the_row full_share (block_ptr b o) x) (fex (KeepsTerminal x s h) (λ _. ftrue))) ws.0 $
      move ! (2 ∷ []) $ nothing ! $ move ! (1 ∷ 0 ∷ []) $ join ! $ nothing ! $ join ! $ move ! (3 ∷ 0 ∷ 2 ∷ []) $ group ! 3 $ frame ! $
      says ! (zero, told s h keeps) $ done !)))))))))))))

pub weighbridge_terminal_indicate_spec : {M : Type 1} → statement M
weighbridge_terminal_indicate_spec 𝓤 𝓛 𝓜 𝓡 wired =
    let c = f.clauses 𝓛 𝓜.mem 𝓡.returns in
    proved 𝓛 f.ended stayed c 𝓜 𝓡 (Goes-dropped 𝓛 1 (plain (λ _. RawPtr)) yes (λ κs x w. refl), (Goes-gave_ref 𝓛 1 0 tt (plain (λ _. indication_row)), tt))
    f.Key.name code.function (code.unfolded 𝓤 𝓛.H 𝓜 𝓡 wired)
    (λ κs. (rawptr_vals, (mut_vals, tt))) (λ κs. (rawptr_Tells, (mut_Tells (named 0) κs.0 indication_row, tt))) (λ κs qs bounds a ghosts are.
    let κ = κs.0 in let q = qs.0 in let shown = a.1.0 in
    qed 𝓛 (((‵ (flft κ q) ⊛ ‵ ftrue) ⊛ ‵ (owns (RawPtr ∷ MutRef (named 0) κ indication_row ∷ []) (a.0, (shown, tt)) (rawptr_vals a.0, (mut_vals shown, tt))))
    ∷ (raw (fact 𝓤 (Testable a.0)) ⊛ ‵ (if_non_null a.0 (terminal_at ghosts.0 ghosts.1 a.0))) ∷ []) ∵
    split ! $ split ! $ move ! (2 ∷ []) $ fsplit ! $ drop ! $ fsplit ! $ keep ! (4 ∷ 0 ∷ 2 ∷ []) $
    -- [the handle; the indication; its token]
    split ! $ heard ! _ (λ may. move ! (1 ∷ 2 ∷ []) $ fjoin ! $ move ! (1 ∷ 0 ∷ []) $ fjoin ! $
    by ! (at 𝓤 𝓛 𝓜 𝓡 wired κ q shown ghosts.0 ghosts.1 a.0 may)))
