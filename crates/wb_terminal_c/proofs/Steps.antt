-- What the walks of the exports cite: of the logic, its steps and its types.
pub use Rattle.std.proofs.Common.{◌≡◌, ℕ, length, subst, List, [], ◌∷◌, ◌++◌, refl, sym, ap, ◌∙◌, w8, w32, w64, MutBor, lit<, ◌<◌, ◌^◌}
pub use Rattle.std.proofs.raw_atomic.Walks.{proved}
pub use base.Fraction.{full_share}
pub use base.Logic.{id⊢, SProp, ent}
pub use base.Fml.{Fml, ftrue, flft, fres, flent, fex, fsep, Lft, Share}
pub use mir.Syntax.{named}
pub use mir.Val.{vint, vptr}
pub use contract.Monad.{fact}
pub use contract.Running.{tables, Running}
pub use prog.Wp.{WpFn}
pub use types.Kit.{‵, raw, ◌⊛◌, some, later, at_ret, ◌$◌, ◌∵◌, !, qed, done, by, move, keep, drop, use1, use2, use3, split, join, fsplit, fsplit3, fjoin, fpack, fpick, feq_l, pick, await, rewrite, suffices, frame, group}
pub use types.Run.{enter, of_opd, lit, bin, addr, stop, fld, hop, no_more, and_then, assigns_last, first, branches, skips, exec, returns, returns_within, init, from}
pub use types.ByLocal.{alloc_all, pass_all, free_all, look_at, get, through, sets, lands_as, env, get_in, look_in_at}
pub use types.SemTy.{Body}
pub use types.Tokens.{lft_new, lft_end}
pub use denote.Builtin.{u8, u32, usize, i64}
pub use denote.Exit.{yes}
pub use denote.Laws.{Is, shows}
pub use denote.Memory.{mem, part_at}
pub use denote.Plain.{uint_Makes, uint_vals, uint_Tells, uint_Lawful}
pub use denote.Signed.{sint_Makes, sint_vals, sint_Tells, sint_Lawful}
pub use denote.RawPtr.{Ptr, RawPtr, block_ptr, lies_at, rawptr_vals, rawptr_Tells, room_at, null_ptr, Testable, tests_null}
pub use denote.Ref.{MutRef, mut_vals, mut_Tells, ShrRef, shr_vals, shr_Tells}
pub use denote.Lend.{lends_ref, ref_back}
pub use denote.Signature.{plain}
pub use denote.Steps.{nothing, owned, heard, peeks, only}
pub use denote.Triple.Call.{calls_at}
pub use denote.Triple.Clauses.{lasts}
pub use denote.Triple.Entry.{on_entry}
pub use denote.Triple.Spec.{triple_of}
pub use denote.Triple.Table.{framed}
pub use denote.Triple.Walked.{Stays, walk_of, says, stay_dropped, Goes-dropped, ends_at, gave_slice, Goes-gave_slice, gave_ref, Goes-gave_ref}
pub use borrow.Table.OneValue.{part_in}
pub use denote.RattleType.{owns}
pub use types.Part.{whole, sub, agg}
pub use denote.Slice.{MutSlice, mut_slice_vals, mut_slice_Tells, finally}
pub use Rattle.std.specs.Ptr.{if_non_null}
pub use types.Logic.{Logic, sem}
pub use seplogic.Ra.Ura.{Ura}
pub use prog.Model.{Model}
pub use prog.Wired.{Wired}
