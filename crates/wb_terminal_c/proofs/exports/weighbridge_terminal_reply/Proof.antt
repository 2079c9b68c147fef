-- `weighbridge_terminal_reply` meets its contract: a walk of its code by hand, since it follows a raw pointer. A null is refused; else the
-- terminal is lent for the call of `copy_reply`, and comes back at its last value,
-- and the buffer is given to it for good.
use Rattle.wb_terminal_c.proofs.Steps.{◌≡◌, ℕ, length, subst, List, [], ◌∷◌, ◌++◌, refl, sym, ap, ◌∙◌, w64, MutBor, proved, full_share, id⊢, Fml, ftrue, flft, fres, flent, fex, fsep, named, vint, vptr, fact, tables, WpFn, ‵, raw, ◌⊛◌, some, later, at_ret, ◌$◌, ◌∵◌, !, qed, done, by, move, keep, drop, use1, use3, split, join, fsplit, fjoin, fpack, fpick, feq_l, pick, await, suffices, frame, group, enter, of_opd, lit, bin, addr, stop, fld, hop, no_more, and_then, first, branches, skips, exec, returns, returns_within, alloc_all, pass_all, free_all, look_at, get, through, sets, lands_as, env, Body, lft_new, lft_end, u8, usize, yes, Is, shows, mem, part_at, uint_Makes, uint_vals, uint_Tells, uint_Lawful, Ptr, RawPtr, block_ptr, lies_at, rawptr_vals, rawptr_Tells, MutRef, lends_ref, ref_back, plain, nothing, owned, heard, peeks, calls_at, lasts, triple_of, framed, Stays, walk_of, says, stay_dropped, Goes-dropped, ends_at, owns, get_in, look_in_at, from, whole, sub, agg, MutSlice, mut_slice_vals, mut_slice_Tells, finally, gave_slice, Goes-gave_slice, lit<, ◌<◌, ◌^◌, if_non_null, null_ptr, Testable, tests_null, Logic, sem, SProp, ent, Ura, Model, Wired, Running, Lft, Share}
use Rattle.wb_instrument.specs.Setup.{Setup}
use Rattle.wb_sics.specs.Event.{TerminalEvent}
use Rattle.wb_terminal_c.specs.Keeps.{KeepsTerminal}
use Rattle.wb_terminal_c.specs.Placed.{terminal_at}
use Rattle.wb_terminal_c.specs.declared.handle.Handle.{Handle}
use Rattle.wb_terminal_c.specs.contracts.handle.Handle.{the_row}
use Rattle.wb_terminal_c.specs.contracts.exports.weighbridge_terminal_reply as f
use Rattle.wb_terminal_c.proofs.exports.weighbridge_terminal_reply.Statement.{statement}
use Rattle.wb_terminal_c.proofs.exports.weighbridge_terminal_reply.Code as code
use Rattle.wb_terminal_c.specs.contracts.handle.copy_reply as g
use Rattle.wb_terminal_c.proofs.handle.copy_reply.Met.{met}
use Rattle.std.specs.Prelude.{slice_get}
use Rattle.wb_terminal_c.specs.Copied.{copied}
use denote.Slice.{coded_holeys, heres, res-finally}

abbrev stayed : Stays f.ended.signature.params f.ended.kept
stayed = (stay_dropped _ yes, (stay_dropped _ yes, (gave_slice (0 ∷ []) tt (plain (λ _. u8)), tt)))

module _ {M : Type 1} (𝓤 : Ura M) (𝓛 : Logic 𝓤) (𝓜 : Model 𝓤 𝓛.H) (𝓡 : Running 𝓤 𝓛.H 𝓜) (wired : Wired 𝓡.env code.code) (κ : Lft) (q : Share) (k : ℕ) (number : Is usize k (uint_vals w64 k)) (buffer : MutBor (List ℕ)) (room : length buffer.now < 2 ^ 64) (s : Setup) (h : List TerminalEvent) where
  abbrev y : Ptr → (walk_of 𝓛 f.ended stayed (f.clauses 𝓛 𝓜.mem 𝓡.returns)).Ghost
  y p = (((κ, tt), (q, tt), tt, (p, (k, (buffer, tt))), (rawptr_vals p, (uint_vals w64 k, (mut_slice_vals buffer, tt)))), (s, h))

  abbrev Runs : Ptr → SProp 𝓤
  Runs p = WpFn 𝓤 𝓛.H (tables 𝓤 𝓛.H 𝓜 𝓡 𝓡.env).C (tables 𝓤 𝓛.H 𝓜 𝓡 𝓡.env).Λ code.function (rawptr_vals p ++ (uint_vals w64 k ++ mut_slice_vals buffer)) ((walk_of 𝓛 f.ended stayed (f.clauses 𝓛 𝓜.mem 𝓡.returns)).post (y p))

  abbrev passed : Fml
  passed = fsep ((MutSlice (named 0) κ u8).own_val buffer (mut_slice_vals buffer)) (flft κ q)

  at : (p : Ptr) → Testable p → ent 𝓤 (sem 𝓛 (fsep (if_non_null p (terminal_at s h p)) passed)) (Runs p)
  at null_ptr may =
      let c = f.clauses 𝓛 𝓜.mem 𝓡.returns in
      qed 𝓛 (‵ (fsep ftrue passed) ∷ []) ∵ fsplit ! $ drop ! $ fsplit ! $
      -- [the buffer; its token]
      enter ! _ _ _ _ _ $ alloc_all ! (λ l. pass_all ! refl ((tt, record { fits = lit< tt }), (((uint_Lawful 𝓛 w64).typed k _ number).0, ((tt, (tt, (record { fits = room }, tt))), tt))) $
      sets ! (bin ! (get ! refl) (lit ! tt) (tests_null null_ptr may)) refl (tt, tt) $
      first ! $ branches ! (get ! refl)
      (λ t. sets ! (of_opd ! (lit ! tt)) refl (tt, record { fits = lit< tt }) $
      returns_within ! ((walk_of 𝓛 f.ended stayed c).post (y null_ptr)) refl (look_at ! 0 refl) $ free_all ! refl $ keep ! (0 ∷ 1 ∷ []) $
      suffices ! _ (ends_at 𝓛 f.ended stayed c (y null_ptr) (vint w64 0) 0 (tt, (tt, (buffer.now, tt))) (tt, (tt, (refl, tt)))) $
      fsplit ! $ move ! (1 ∷ []) $ fsplit ! $
      use1 𝓛 (‵ (fres buffer.ghost_name ((coded_holeys u8).code (heres u8 buffer.now)))) (𝓛.names.obs-res buffer.ghost_name ((coded_holeys u8).code (heres u8 buffer.now))) $
      use1 𝓛 (‵ (finally u8 buffer.ghost_name buffer.now)) (res-finally 𝓛 (named 0) κ u8 buffer.ghost_name buffer.now) $ fjoin ! $ keep ! (0 ∷ 2 ∷ []) $
      -- [the buffer; its token]
      nothing ! $ move ! (1 ∷ 0 ∷ []) $ join ! $ nothing ! $ join ! $ nothing ! $ join ! $
      move ! (1 ∷ []) $ nothing ! $ move ! (1 ∷ 0 ∷ []) $ join ! $ owned ! usize _ (uint_Makes 𝓛 w64) 0 _ (refl, lit< tt) $ nothing ! $ move ! (2 ∷ 3 ∷ 1 ∷ 0 ∷ []) $
      group ! 3 $ frame ! $ says ! (refl, refl) $ done !)
      (λ t. absurd t))
  at (block_ptr b o) may =
      let c = f.clauses 𝓛 𝓜.mem 𝓡.returns in let 𝓣 = tables 𝓤 𝓛.H 𝓜 𝓡 𝓡.env in
      qed 𝓛 (‵ (fsep (terminal_at s h (block_ptr b o)) passed) ∷ []) ∵ fsplit ! $ move ! (1 ∷ []) $ fsplit ! $ move ! (2 ∷ []) $
      fpick ! (λ old. fsplit ! $ move ! (1 ∷ []) $ fpick ! (λ keeps. drop ! $
      -- [the handle; the buffer; its token]
      enter ! _ _ _ _ _ $ alloc_all ! (λ l. pass_all ! refl ((tt, tt), (((uint_Lawful 𝓛 w64).typed k _ number).0, ((tt, (tt, (record { fits = room }, tt))), tt))) $
      sets ! (bin ! (get ! refl) (lit ! tt) (tests_null (block_ptr b o) may)) refl (tt, tt) $
      first ! $ branches ! (get ! refl) (λ t. absurd t) (λ t. skips ! $
      exec ! 𝓣.C 𝓣.Λ (env code.Mir.locals l) code.Mir.t-3 (at_ret _ ((walk_of 𝓛 f.ended stayed c).post (y (block_ptr b o)))) $
      sets ! (of_opd ! (get ! refl)) refl (tt, tt) $
      sets ! (addr ! (through ! refl (stop !))) refl (tt, tt) $
      sets ! (addr ! (from ! (fld ! refl (hop ! (look_in_at ! 3 (sub ! 0 refl (whole !))) (stop !))))) refl (tt, tt) $
      sets ! (agg ! (and_then ! (get ! refl) (and_then ! (get_in ! (fld ! refl (stop !)) (sub ! 1 refl (whole !))) (no_more !)))) refl (tt, (tt, (record { fits = room }, tt))) $
      lft_new ! tt (λ α. move ! (1 ∷ []) $
      use1 𝓛 (later (some (λ (γ : ℕ). ‵ ((MutRef (named 0) (α ∷ []) the_row).own_val (record { ref_ptr = (b, o); ghost_name = γ; now = old }) (vptr b o ∷ [])) ⊛ ‵ (flent (α ∷ []) (Body (mem the_row) b o γ)))))
      (lends_ref 𝓛 the_row (named 0) (α ∷ []) old b o) $ await ! tt $ pick ! (λ γ. split ! $
      -- [the loan; the lender's part; the loan's token; the buffer; its token; the locals]
      let G = triple_of 𝓛 g.signature (g.spec 𝓛 𝓜.mem 𝓡.returns) in
      let z : G.Ghost = (((α ∷ [], (κ, tt)), (full_share, (q, tt)), tt, (record { ref_ptr = (b, o); ghost_name = γ; now = old }, (k, (buffer, tt))), (vptr b o ∷ [], (uint_vals w64 k, (mut_slice_vals buffer, tt)))), tt) in
      move ! (3 ∷ []) $ nothing ! $ move ! (1 ∷ 0 ∷ []) $ fjoin ! $ owned ! usize (Is usize) (uint_Makes 𝓛 w64) k _ number $ fjoin ! $ move ! (1 ∷ 0 ∷ []) $ fjoin ! $
      -- [what is passed; the lender's part; the loan's token; the buffer's; the locals]
      move ! (3 ∷ []) $ nothing ! $ move ! (1 ∷ 0 ∷ []) $ join ! $ move ! (3 ∷ 0 ∷ []) $ join ! $ join ! $ nothing ! $ move ! (1 ∷ 0 ∷ []) $ join ! $ use1 𝓛 (raw (G.pre z)) (id⊢ 𝓤 _) $
      calls_at ! (framed 𝓤 𝓛.H 𝓜 (tables 𝓤 𝓛.H 𝓜 𝓡 𝓡.env)) G (met 𝓤 𝓛 𝓜 𝓡 (code.calls-wb_terminal_c::handle::copy_reply 𝓡.env wired)) z
      (and_then ! (get ! refl) (and_then ! (get ! refl) (and_then ! (get ! refl) (no_more !)))) (λ v.
      use1 𝓛 (later (some (λ (r : ℕ). ((‵ (flft (α ∷ []) full_share) ⊛ (‵ (flft κ q) ⊛ ‵ ftrue)) ⊛ ‵ (usize.own_val r (v ∷ []))) ⊛
      some (λ (ws : Handle × (Unit {0} × (List ℕ × Unit {0}))). ‵ (lasts g.ended z.0.0 z.0.3 ws) ⊛ (raw (fact 𝓤 (r ≡ (copied (slice_get old.replies.items k) buffer.now).0))
      ⊛ (raw (fact 𝓤 (ws.1.1.0 ≡ (copied (slice_get old.replies.items k) buffer.now).1)) ⊛ raw (fact 𝓤 (ws.0 ≡ old)))))))) (id⊢ 𝓤 _) $
      await ! tt $ pick ! (λ r. split ! $ split ! $ split ! $ lft_end ! tt $ move ! (2 ∷ []) $
      peeks ! usize (Is usize) (shows 𝓛 usize) r (v ∷ []) (λ is. lands_as ! refl refl ((uint_Lawful 𝓛 w64).typed r _ is).0 $
      move ! (3 ∷ []) $ pick ! (λ ws. split ! $ move ! (1 ∷ []) $ split ! $ heard ! _ (λ count. split ! $ heard ! _ (λ after. heard ! _ (λ same. fsplit ! $ fsplit ! $
      -- [the handle's last value; its borrow; the rest; the result; the loan is over; the buffer's token; the lender's part; the locals]
      move ! (4 ∷ 6 ∷ 0 ∷ []) $ use3 𝓛 (later (‵ (part_at the_row full_share ws.0 b o))) (ref_back 𝓛 the_row (α ∷ []) γ ws.0 b o) $ await ! tt $
      move ! (2 ∷ []) $ fsplit ! $ drop ! $ fsplit ! $ fsplit ! $ fsplit ! $ move ! (1 ∷ []) $ feq_l ! (λ as_long. fjoin ! $
      -- [the buffer; nothing; the handle; its borrow; the result; the buffer's token; the locals]
      returns ! (look_at ! 0 refl) $ free_all ! refl $ keep ! (2 ∷ 4 ∷ 0 ∷ 5 ∷ []) $
      suffices ! _ (ends_at 𝓛 f.ended stayed c (y (block_ptr b o)) v r (tt, (tt, (ws.1.1.0, tt))) (tt, (tt, (as_long, tt)))) $
      let kept : KeepsTerminal ws.0 s h = subst (λ (x : Handle). KeepsTerminal x s h) (sym same) keeps in
      nothing ! $ fpack ! (KeepsTerminal ws.0 s h) (λ _. ftrue) kept $ move ! (1 ∷ 0 ∷ []) $ fjoin ! $
      fpack ! Handle (λ x. fsep (lies_at the_row full_share (block_ptr b o) x) (fex (KeepsTerminal x s h) (λ _. ftrue))) ws.0 $
      move ! (2 ∷ []) $ nothing ! $ move ! (1 ∷ 0 ∷ []) $ join ! $ nothing ! $ join ! $ nothing ! $ join ! $ move ! (3 ∷ 0 ∷ 2 ∷ []) $ group ! 3 $ frame ! $
      says ! (count ∙ ap (λ i. (copied (slice_get i k) buffer.now).0) keeps.replies, after ∙ ap (λ i. (copied (slice_get i k) buffer.now).1) keeps.replies) $ done !))))))))))))))

pub weighbridge_terminal_reply_spec : {M : Type 1} → statement M
weighbridge_terminal_reply_spec 𝓤 𝓛 𝓜 𝓡 wired =
    let c = f.clauses 𝓛 𝓜.mem 𝓡.returns in
    proved 𝓛 f.ended stayed c 𝓜 𝓡 (Goes-dropped 𝓛 1 (plain (λ _. RawPtr)) yes (λ κs x w. refl), (Goes-dropped 𝓛 1 (plain (λ _. usize)) yes (λ κs x w. refl), (Goes-gave_slice 𝓛 1 0 tt (plain (λ _. u8)), tt)))
    f.Key.name code.function (code.unfolded 𝓤 𝓛.H 𝓜 𝓡 wired)
    (λ κs. (rawptr_vals, (uint_vals w64, (mut_slice_vals, tt)))) (λ κs. (rawptr_Tells, (uint_Tells w64, (mut_slice_Tells (named 0) κs.0 u8, tt)))) (λ κs qs bounds a ghosts are.
    let κ = κs.0 in let q = qs.0 in let k = a.1.0 in let buffer = a.1.1.0 in
    qed 𝓛 (((‵ (flft κ q) ⊛ ‵ ftrue) ⊛ ‵ (owns (RawPtr ∷ usize ∷ MutSlice (named 0) κ u8 ∷ []) (a.0, (k, (buffer, tt))) (rawptr_vals a.0, (uint_vals w64 k, (mut_slice_vals buffer, tt)))))
    ∷ (raw (fact 𝓤 (Testable a.0)) ⊛ ‵ (if_non_null a.0 (terminal_at ghosts.0 ghosts.1 a.0))) ∷ []) ∵
    split ! $ split ! $ move ! (2 ∷ []) $ fsplit ! $ drop ! $ fsplit ! $ drop ! $ fsplit ! $ keep ! (4 ∷ 0 ∷ 2 ∷ []) $
    -- [the handle; the buffer; its token]
    split ! $ heard ! _ (λ may. move ! (1 ∷ 2 ∷ []) $ fjoin ! $ move ! (1 ∷ 0 ∷ []) $ fjoin ! $
    by ! (at 𝓤 𝓛 𝓜 𝓡 wired κ q k are.1.0 buffer are.1.1.0.0.1.0 ghosts.0 ghosts.1 a.0 may)))
