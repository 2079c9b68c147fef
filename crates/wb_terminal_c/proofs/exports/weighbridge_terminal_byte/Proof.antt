-- `weighbridge_terminal_byte` meets its contract: a walk of its code by hand, since it follows a raw pointer. A null is refused; else the
-- terminal is lent for the call of `hear`, and comes back at its last value.
use Rattle.wb_terminal_c.proofs.Steps.{◌≡◌, ℕ, List, [], ◌∷◌, ◌++◌, refl, w8, w32, proved, full_share, id⊢, ftrue, flft, flent, fex, fsep, named, vint, vptr, fact, tables, WpFn, ‵, raw, ◌⊛◌, some, later, at_ret, ◌$◌, ◌∵◌, !, qed, done, by, move, keep, drop, use1, use3, split, join, fsplit, fjoin, fpack, fpick, pick, await, suffices, frame, group, enter, of_opd, lit, bin, addr, stop, no_more, and_then, first, branches, skips, exec, returns, returns_within, alloc_all, pass_all, free_all, look_at, get, through, sets, lands_as, env, Body, lft_new, lft_end, u8, u32, yes, Is, shows, mem, part_at, uint_Makes, uint_vals, uint_Tells, uint_Lawful, Ptr, RawPtr, block_ptr, lies_at, rawptr_vals, rawptr_Tells, MutRef, lends_ref, ref_back, plain, nothing, owned, heard, peeks, calls_at, lasts, on_entry, triple_of, framed, Stays, walk_of, says, stay_dropped, Goes-dropped, ends_at, lit<, if_non_null, null_ptr, Testable, tests_null, Logic, sem, SProp, ent, Ura, Model, Wired, Running}
use Rattle.wb_instrument.specs.Setup.{Setup}
use Rattle.wb_sics.specs.Event.{TerminalEvent}
use Rattle.wb_terminal_c.specs.Keeps.{KeepsTerminal}
use Rattle.wb_terminal_c.specs.Placed.{terminal_at}
use Rattle.wb_terminal_c.specs.declared.handle.Handle.{Handle}
use Rattle.wb_terminal_c.specs.contracts.handle.Handle.{the_row}
use Rattle.wb_terminal_c.specs.contracts.exports.weighbridge_terminal_byte as f
use Rattle.wb_terminal_c.proofs.exports.weighbridge_terminal_byte.Statement.{statement}
use Rattle.wb_terminal_c.proofs.exports.weighbridge_terminal_byte.Code as code
use Rattle.wb_terminal_c.specs.contracts.handle.hear as g
use Rattle.wb_terminal_c.proofs.handle.hear.Met.{met}
use Rattle.wb_sics.specs.Event.{byte}

abbrev stayed : Stays f.ended.signature.params f.ended.kept
stayed = (stay_dropped _ yes, (stay_dropped _ yes, tt))

module _ {M : Type 1} (𝓤 : Ura M) (𝓛 : Logic 𝓤) (𝓜 : Model 𝓤 𝓛.H) (𝓡 : Running 𝓤 𝓛.H 𝓜) (wired : Wired 𝓡.env code.code) (k : ℕ) (number : Is u8 k (uint_vals w8 k)) (s : Setup) (h : List TerminalEvent) where
  abbrev now : List TerminalEvent
  now = byte k ∷ h

  abbrev y : Ptr → (walk_of 𝓛 f.ended stayed (f.clauses 𝓛 𝓜.mem 𝓡.returns)).Ghost
  y p = ((tt, tt, tt, (p, (k, tt)), (rawptr_vals p, (uint_vals w8 k, tt))), (s, h))

  abbrev Runs : Ptr → SProp 𝓤
  Runs p = WpFn 𝓤 𝓛.H (tables 𝓤 𝓛.H 𝓜 𝓡 𝓡.env).C (tables 𝓤 𝓛.H 𝓜 𝓡 𝓡.env).Λ code.function (rawptr_vals p ++ (uint_vals w8 k)) ((walk_of 𝓛 f.ended stayed (f.clauses 𝓛 𝓜.mem 𝓡.returns)).post (y p))

  at : (p : Ptr) → Testable p → ent 𝓤 (sem 𝓛 (if_non_null p (terminal_at s h p))) (Runs p)
  at null_ptr may =
      let c = f.clauses 𝓛 𝓜.mem 𝓡.returns in
      qed 𝓛 (‵ ftrue ∷ []) ∵ drop ! $ enter ! _ _ _ _ _ $ alloc_all ! (λ l. pass_all ! refl ((tt, record { fits = lit< tt }), ((uint_Lawful 𝓛 w8).typed k _ number)) $
      sets ! (bin ! (get ! refl) (lit ! tt) (tests_null null_ptr may)) refl (tt, tt) $
      first ! $ branches ! (get ! refl)
      (λ t. sets ! (of_opd ! (lit ! tt)) refl (tt, record { fits = lit< tt }) $
      returns_within ! ((walk_of 𝓛 f.ended stayed c).post (y null_ptr)) refl (look_at ! 0 refl) $ free_all ! refl $
      suffices ! _ (ends_at 𝓛 f.ended stayed c (y null_ptr) (vint w32 10) 10 (tt, (tt, tt)) (tt, (tt, tt))) $
      nothing ! $ owned ! u32 _ (uint_Makes 𝓛 w32) 10 _ (refl, lit< tt) $
      nothing ! $ nothing ! $ join ! $ nothing ! $ join ! $ nothing ! $ group ! 3 $ frame ! $ says ! refl $ done !)
      (λ t. absurd t))
  at (block_ptr b o) may =
      let c = f.clauses 𝓛 𝓜.mem 𝓡.returns in let 𝓣 = tables 𝓤 𝓛.H 𝓜 𝓡 𝓡.env in
      qed 𝓛 (‵ (terminal_at s h (block_ptr b o)) ∷ []) ∵
      fpick ! (λ old. fsplit ! $ move ! (1 ∷ []) $ fpick ! (λ keeps. drop ! $
      enter ! _ _ _ _ _ $ alloc_all ! (λ l. pass_all ! refl ((tt, tt), ((uint_Lawful 𝓛 w8).typed k _ number)) $
      sets ! (bin ! (get ! refl) (lit ! tt) (tests_null (block_ptr b o) may)) refl (tt, tt) $
      first ! $ branches ! (get ! refl) (λ t. absurd t) (λ t. skips ! $
      exec ! 𝓣.C 𝓣.Λ (env code.Mir.locals l) code.Mir.t-3 (at_ret _ ((walk_of 𝓛 f.ended stayed c).post (y (block_ptr b o)))) $
      -- [the handle; the locals]
      sets ! (of_opd ! (get ! refl)) refl (tt, tt) $
      sets ! (addr ! (through ! refl (stop !))) refl (tt, tt) $
      lft_new ! tt (λ α. move ! (1 ∷ []) $
      use1 𝓛 (later (some (λ (γ : ℕ). ‵ ((MutRef (named 0) (α ∷ []) the_row).own_val (record { ref_ptr = (b, o); ghost_name = γ; now = old }) (vptr b o ∷ [])) ⊛ ‵ (flent (α ∷ []) (Body (mem the_row) b o γ)))))
      (lends_ref 𝓛 the_row (named 0) (α ∷ []) old b o) $ await ! tt $ pick ! (λ γ. split ! $
      -- [the loan; the lender's part; the token; the locals]
      let G = triple_of 𝓛 g.signature (g.spec 𝓛 𝓜.mem 𝓡.returns) in
      let z : G.Ghost = (((α ∷ [], tt), (full_share, tt), tt, (record { ref_ptr = (b, o); ghost_name = γ; now = old }, (k, tt)), (vptr b o ∷ [], (uint_vals w8 k, tt))), tt) in
      nothing ! $ owned ! u8 (Is u8) (uint_Makes 𝓛 w8) k _ number $ fjoin ! $ move ! (1 ∷ 0 ∷ []) $ fjoin ! $
      nothing ! $ move ! (3 ∷ 0 ∷ []) $ join ! $ join ! $ nothing ! $ move ! (1 ∷ 0 ∷ []) $ join ! $ use1 𝓛 (raw (G.pre z)) (id⊢ 𝓤 _) $
      calls_at ! (framed 𝓤 𝓛.H 𝓜 (tables 𝓤 𝓛.H 𝓜 𝓡 𝓡.env)) G (met 𝓤 𝓛 𝓜 𝓡 (code.calls-wb_terminal_c::handle::hear 𝓡.env wired)) z
      (and_then ! (get ! refl) (and_then ! (get ! refl) (no_more !))) (λ v.
      use1 𝓛 (later (some (λ (r : ℕ). ((‵ (flft (α ∷ []) full_share) ⊛ ‵ ftrue) ⊛ ‵ (u32.own_val r (v ∷ []))) ⊛
      some (λ (ws : Handle × (Unit {0} × Unit {0})). ‵ (lasts g.ended z.0.0 z.0.3 ws) ⊛ (raw (fact 𝓤 ((i : Setup) (j : List TerminalEvent) → KeepsTerminal old i j → KeepsTerminal ws.0 i (byte k ∷ j))) ⊛ raw (fact 𝓤 (r ≡ 0))))))) (id⊢ 𝓤 _) $
      await ! tt $ pick ! (λ r. split ! $ split ! $ split ! $ lft_end ! tt $ move ! (2 ∷ []) $
      peeks ! u32 (Is u32) (shows 𝓛 u32) r (v ∷ []) (λ is. lands_as ! refl refl ((uint_Lawful 𝓛 w32).typed r _ is).0 $
      move ! (3 ∷ []) $ pick ! (λ ws. split ! $ move ! (1 ∷ []) $ split ! $ heard ! _ (λ one. heard ! _ (λ two. fsplit ! $ fsplit ! $
      -- [the handle's last value; its borrow; the rest; the result; the loan is over; nothing; the lender's part; the locals]
      move ! (4 ∷ 6 ∷ 0 ∷ []) $ use3 𝓛 (later (‵ (part_at the_row full_share ws.0 b o))) (ref_back 𝓛 the_row (α ∷ []) γ ws.0 b o) $ await ! tt $
      returns ! (look_at ! 0 refl) $ free_all ! refl $ keep ! (0 ∷ 3 ∷ []) $
      suffices ! _ (ends_at 𝓛 f.ended stayed c (y (block_ptr b o)) v r (tt, (tt, tt)) (tt, (tt, tt))) $
      let kept : KeepsTerminal ws.0 s now = one s h keeps in
      nothing ! $ fpack ! (KeepsTerminal ws.0 s now) (λ _. ftrue) kept $ move ! (1 ∷ 0 ∷ []) $ fjoin ! $
      fpack ! Handle (λ x. fsep (lies_at the_row full_share (block_ptr b o) x) (fex (KeepsTerminal x s now) (λ _. ftrue))) ws.0 $
      move ! (1 ∷ 0 ∷ []) $ nothing ! $ nothing ! $ join ! $ nothing ! $ join ! $ nothing ! $ group ! 3 $ frame ! $ says ! (two) $ done !))))))))))))

pub weighbridge_terminal_byte_spec : {M : Type 1} → statement M
weighbridge_terminal_byte_spec 𝓤 𝓛 𝓜 𝓡 wired =
    let c = f.clauses 𝓛 𝓜.mem 𝓡.returns in
    proved 𝓛 f.ended stayed c 𝓜 𝓡 (Goes-dropped 𝓛 0 (plain (λ _. RawPtr)) yes (λ κs x w. refl), (Goes-dropped 𝓛 0 (plain (λ _. u8)) yes (λ κs x w. refl), tt))
    f.Key.name code.function (code.unfolded 𝓤 𝓛.H 𝓜 𝓡 wired)
    (λ κs. (rawptr_vals, (uint_vals w8, tt))) (λ κs. (rawptr_Tells, (uint_Tells w8, tt))) (λ κs qs bounds a ghosts are.
    qed 𝓛 (raw (on_entry 𝓛 f.signature κs qs a (rawptr_vals a.0, (uint_vals w8 a.1.0, tt))) ∷ (raw (fact 𝓤 (Testable a.0)) ⊛ ‵ (if_non_null a.0 (terminal_at ghosts.0 ghosts.1 a.0))) ∷ []) ∵
    drop ! $ split ! $ heard ! _ (λ may. by ! (at 𝓤 𝓛 𝓜 𝓡 wired a.1.0 are.1.0 ghosts.0 ghosts.1 a.0 may)))
