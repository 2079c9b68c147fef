-- `weighbridge_terminal_take` meets its contract: a walk of its code by hand, because it follows a raw pointer. A null is refused; else the
-- terminal is lent for the call of `hear_all`, and comes back at its last value.
use Rattle.wb_terminal_c.proofs.Steps.{◌≡◌, ℕ, length, List, [], ◌∷◌, ◌++◌, refl, w64, proved, full_share, id⊢, Fml, ftrue, flft, flent, fex, fsep, named, vint, vptr, fact, tables, WpFn, ‵, raw, ◌⊛◌, some, later, at_ret, ◌$◌, ◌∵◌, !, qed, done, by, move, keep, drop, use1, use3, split, join, fsplit, fjoin, fpack, fpick, pick, await, suffices, frame, group, enter, of_opd, lit, bin, addr, stop, no_more, and_then, first, branches, skips, exec, returns, returns_within, alloc_all, pass_all, free_all, look_at, get, through, sets, lands_as, env, Body, lft_new, lft_end, u8, usize, yes, Is, shows, mem, part_at, uint_Makes, uint_Lawful, Ptr, RawPtr, block_ptr, lies_at, rawptr_vals, rawptr_Tells, MutRef, lends_ref, ref_back, plain, nothing, owned, heard, peeks, calls_at, lasts, triple_of, framed, Stays, walk_of, says, stay_dropped, Goes-dropped, ends_at, owns, lit<, ◌<◌, ◌^◌, if_non_null, null_ptr, Testable, tests_null, Logic, sem, SProp, ent, Ura, Model, Wired, Running, Lft, Share}
use Rattle.wb_instrument.specs.Setup.{Setup}
use Rattle.wb_sics.specs.Event.{TerminalEvent}
use Rattle.wb_terminal_c.specs.Keeps.{KeepsTerminal}
use Rattle.wb_terminal_c.specs.Placed.{terminal_at}
use Rattle.wb_terminal_c.specs.declared.handle.Handle.{Handle}
use Rattle.wb_terminal_c.specs.contracts.handle.Handle.{the_row}
use Rattle.wb_terminal_c.specs.contracts.exports.weighbridge_terminal_take as f
use Rattle.wb_terminal_c.proofs.exports.weighbridge_terminal_take.Statement.{statement}
use Rattle.wb_terminal_c.proofs.exports.weighbridge_terminal_take.Code as code
use Rattle.wb_terminal_c.specs.contracts.handle.hear_all as g
use Rattle.wb_terminal_c.proofs.handle.hear_all.Met.{met}
use Rattle.std.specs.Prelude.{take}
use Rattle.wb_terminal_c.specs.Heard.{heard_after, until_reply}
use denote.Builtin.{SliceRefOf}
use denote.Ref.{Bor}
use types.Run.{neg_lit}
use denote.Slice.{ShrSlice, shr_slice_vals, shr_slice_Tells}

abbrev stayed : Stays f.ended.signature.params f.ended.kept
stayed = (stay_dropped _ yes, (stay_dropped _ yes, tt))

module _ {M : Type 1} (𝓤 : Ura M) (𝓛 : Logic 𝓤) (𝓜 : Model 𝓤 𝓛.H) (𝓡 : Running 𝓤 𝓛.H 𝓜) (wired : Wired 𝓡.env code.code) (κ : Lft) (q : Share) (bytes : Bor (List ℕ)) (room : length bytes.now < 2 ^ 64) (s : Setup) (h : List TerminalEvent) where
  abbrev now : ℕ → List TerminalEvent
  now n = heard_after (take n bytes.now) h

  abbrev y : Ptr → (walk_of 𝓛 f.ended stayed (f.clauses 𝓛 𝓜.mem 𝓡.returns)).Ghost
  y p = (((κ, tt), (q, tt), tt, (p, (bytes, tt)), (rawptr_vals p, (shr_slice_vals bytes, tt))), (s, h))

  abbrev Runs : Ptr → SProp 𝓤
  Runs p = WpFn 𝓤 𝓛.H (tables 𝓤 𝓛.H 𝓜 𝓡 𝓡.env).C (tables 𝓤 𝓛.H 𝓜 𝓡 𝓡.env).Λ code.function (rawptr_vals p ++ (shr_slice_vals bytes)) ((walk_of 𝓛 f.ended stayed (f.clauses 𝓛 𝓜.mem 𝓡.returns)).post (y p))

  abbrev passed : Fml
  passed = fsep ((ShrSlice (named 0) κ u8).own_val bytes (shr_slice_vals bytes)) (flft κ q)

  at : (p : Ptr) → Testable p → ent 𝓤 (sem 𝓛 (fsep (if_non_null p (terminal_at s h p)) passed)) (Runs p)
  at null_ptr may =
      let c = f.clauses 𝓛 𝓜.mem 𝓡.returns in
      qed 𝓛 (‵ (fsep ftrue passed) ∷ []) ∵ fsplit ! $ drop ! $ fsplit ! $ drop ! $
      -- [the bytes' token]
      enter ! _ _ _ _ _ $ alloc_all ! (λ l. pass_all ! refl ((tt, record { fits = lit< tt }), ((tt, (tt, (record { fits = room }, tt))), tt)) $
      sets ! (bin ! (get ! refl) (lit ! tt) (tests_null null_ptr may)) refl (tt, tt) $
      first ! $ branches ! (get ! refl)
      (λ t. sets ! (of_opd ! (neg_lit ! tt)) refl (tt, record { fits = lit< tt }) $
      returns_within ! ((walk_of 𝓛 f.ended stayed c).post (y null_ptr)) refl (look_at ! 0 refl) $ free_all ! refl $ keep ! (0 ∷ []) $
      suffices ! _ (ends_at 𝓛 f.ended stayed c (y null_ptr) (vint w64 18446744073709551615) 18446744073709551615 (tt, (tt, tt)) (tt, (tt, tt))) $
      nothing ! $ move ! (1 ∷ 0 ∷ []) $ join ! $ nothing ! $ nothing ! $ join ! $ nothing ! $ join ! $ owned ! usize _ (uint_Makes 𝓛 w64) 18446744073709551615 _ (refl, lit< tt) $ nothing ! $ move ! (3 ∷ 2 ∷ 1 ∷ 0 ∷ []) $
      group ! 3 $ frame ! $ says ! refl $ done !)
      (λ t. absurd t))
  at (block_ptr b o) may =
      let c = f.clauses 𝓛 𝓜.mem 𝓡.returns in let 𝓣 = tables 𝓤 𝓛.H 𝓜 𝓡 𝓡.env in
      qed 𝓛 (‵ (fsep (terminal_at s h (block_ptr b o)) passed) ∷ []) ∵ fsplit ! $ move ! (1 ∷ []) $ fsplit ! $ move ! (2 ∷ []) $
      fpick ! (λ old. fsplit ! $ move ! (1 ∷ []) $ fpick ! (λ keeps. drop ! $
      -- [the handle; the bytes; their token]
      enter ! _ _ _ _ _ $ alloc_all ! (λ l. pass_all ! refl ((tt, tt), ((tt, (tt, (record { fits = room }, tt))), tt)) $
      sets ! (bin ! (get ! refl) (lit ! tt) (tests_null (block_ptr b o) may)) refl (tt, tt) $
      first ! $ branches ! (get ! refl) (λ t. absurd t) (λ t. skips ! $
      exec ! 𝓣.C 𝓣.Λ (env code.Mir.locals l) code.Mir.t-3 (at_ret _ ((walk_of 𝓛 f.ended stayed c).post (y (block_ptr b o)))) $
      sets ! (of_opd ! (get ! refl)) refl (tt, tt) $
      sets ! (addr ! (through ! refl (stop !))) refl (tt, tt) $
      lft_new ! tt (λ α. move ! (1 ∷ []) $
      use1 𝓛 (later (some (λ (γ : ℕ). ‵ ((MutRef (named 0) (α ∷ []) the_row).own_val (record { ref_ptr = (b, o); ghost_name = γ; now = old }) (vptr b o ∷ [])) ⊛ ‵ (flent (α ∷ []) (Body (mem the_row) b o γ)))))
      (lends_ref 𝓛 the_row (named 0) (α ∷ []) old b o) $ await ! tt $ pick ! (λ γ. split ! $
      -- [the loan; the lender's part; the loan's token; the bytes; their token; the locals]
      let G = triple_of 𝓛 g.signature (g.spec 𝓛 𝓜.mem 𝓡.returns) in
      let z : G.Ghost = (((α ∷ [], (κ, tt)), (full_share, (q, tt)), tt, (record { ref_ptr = (b, o); ghost_name = γ; now = old }, (bytes, tt)), (vptr b o ∷ [], (shr_slice_vals bytes, tt))), tt) in
      move ! (3 ∷ []) $ nothing ! $ move ! (1 ∷ 0 ∷ []) $ fjoin ! $ move ! (1 ∷ 0 ∷ []) $ fjoin ! $
      -- [what is passed; the lender's part; the loan's token; the bytes'; the locals]
      move ! (3 ∷ []) $ nothing ! $ move ! (1 ∷ 0 ∷ []) $ join ! $ move ! (3 ∷ 0 ∷ []) $ join ! $ join ! $ nothing ! $ move ! (1 ∷ 0 ∷ []) $ join ! $ use1 𝓛 (raw (G.pre z)) (id⊢ 𝓤 _) $
      calls_at ! (framed 𝓤 𝓛.H 𝓜 (tables 𝓤 𝓛.H 𝓜 𝓡 𝓡.env)) G (met 𝓤 𝓛 𝓜 𝓡 (code.calls-wb_terminal_c::handle::hear_all 𝓡.env wired)) z
      (and_then ! (get ! refl) (and_then ! (get ! refl) (no_more !))) (λ v.
      use1 𝓛 (later (some (λ (r : ℕ). ((‵ (flft (α ∷ []) full_share) ⊛ (‵ (flft κ q) ⊛ ‵ ftrue)) ⊛ ‵ (usize.own_val r (v ∷ []))) ⊛
      some (λ (ws : Handle × (Unit {0} × Unit {0})). ‵ (lasts g.ended z.0.0 z.0.3 ws) ⊛ raw (fact 𝓤 ((i : Setup) (j : List TerminalEvent) → KeepsTerminal old i j → KeepsTerminal ws.0 i (heard_after (take r bytes.now) j) × (r ≡ until_reply i j bytes.now))))))) (id⊢ 𝓤 _) $
      await ! tt $ pick ! (λ r. split ! $ split ! $ split ! $ lft_end ! tt $ move ! (2 ∷ []) $
      peeks ! usize (Is usize) (shows 𝓛 usize) r (v ∷ []) (λ is. lands_as ! refl refl ((uint_Lawful 𝓛 w64).typed r _ is).0 $
      move ! (3 ∷ []) $ pick ! (λ ws. split ! $ move ! (1 ∷ []) $ heard ! _ (λ one. fsplit ! $ fsplit ! $
      -- [the handle's last value; its borrow; the rest; the result; the loan is over; the bytes' token; the lender's part; the locals]
      move ! (4 ∷ 6 ∷ 0 ∷ []) $ use3 𝓛 (later (‵ (part_at the_row full_share ws.0 b o))) (ref_back 𝓛 the_row (α ∷ []) γ ws.0 b o) $ await ! tt $
      -- [the handle; its borrow; the rest; the result; the bytes' token; the locals]
      returns ! (look_at ! 0 refl) $ free_all ! refl $ keep ! (0 ∷ 3 ∷ 4 ∷ []) $
      suffices ! _ (ends_at 𝓛 f.ended stayed c (y (block_ptr b o)) v r (tt, (tt, tt)) (tt, (tt, tt))) $
      let kept : KeepsTerminal ws.0 s (now r) = (one s h keeps).0 in
      nothing ! $ fpack ! (KeepsTerminal ws.0 s (now r)) (λ _. ftrue) kept $ move ! (1 ∷ 0 ∷ []) $ fjoin ! $
      fpack ! Handle (λ x. fsep (lies_at the_row full_share (block_ptr b o) x) (fex (KeepsTerminal x s (now r)) (λ _. ftrue))) ws.0 $
      nothing ! $ nothing ! $ join ! $ nothing ! $ join ! $ move ! (3 ∷ 0 ∷ 2 ∷ []) $ group ! 3 $ frame ! $ says ! (one s h keeps).1 $ done !)))))))))))

pub weighbridge_terminal_take_spec : {M : Type 1} → statement M
weighbridge_terminal_take_spec 𝓤 𝓛 𝓜 𝓡 wired =
    let c = f.clauses 𝓛 𝓜.mem 𝓡.returns in
    proved 𝓛 f.ended stayed c 𝓜 𝓡 (Goes-dropped 𝓛 1 (plain (λ _. RawPtr)) yes (λ κs x w. refl), (Goes-dropped 𝓛 1 (SliceRefOf {n = 1} (0 ∷ []) tt (plain {n = 1} (λ κs. u8)) (λ κs. tt)) yes (λ κs x w. refl), tt))
    f.Key.name code.function (code.unfolded 𝓤 𝓛.H 𝓜 𝓡 wired)
    (λ κs. (rawptr_vals, (shr_slice_vals, tt))) (λ κs. (rawptr_Tells, (shr_slice_Tells (named 0) κs.0 u8, tt))) (λ κs qs bounds a ghosts are.
    let κ = κs.0 in let q = qs.0 in let bytes = a.1.0 in
    qed 𝓛 (((‵ (flft κ q) ⊛ ‵ ftrue) ⊛ ‵ (owns (RawPtr ∷ ShrSlice (named 0) κ u8 ∷ []) (a.0, (bytes, tt)) (rawptr_vals a.0, (shr_slice_vals bytes, tt))))
    ∷ (raw (fact 𝓤 (Testable a.0)) ⊛ ‵ (if_non_null a.0 (terminal_at ghosts.0 ghosts.1 a.0))) ∷ []) ∵
    split ! $ split ! $ move ! (2 ∷ []) $ fsplit ! $ drop ! $ fsplit ! $ keep ! (4 ∷ 0 ∷ 2 ∷ []) $
    -- [the handle; the bytes; their token]
    split ! $ heard ! _ (λ may. move ! (1 ∷ 2 ∷ []) $ fjoin ! $ move ! (1 ∷ 0 ∷ []) $ fjoin ! $
    by ! (at 𝓤 𝓛 𝓜 𝓡 wired κ q bytes are.1.0.0.1.0 ghosts.0 ghosts.1 a.0 may)))
