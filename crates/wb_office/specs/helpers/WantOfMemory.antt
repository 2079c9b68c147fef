-- An answer that only want of memory keeps back.
use Rattle.std.specs.Prelude.{◌≡◌, true, false, Result, Err}
use Rattle.wb_store.specs.declared.fault.StoreFault.TheVariants.{Memory}
use Rattle.wb_messages.specs.declared.answer.Answer.{Answer}
use Rattle.wb_messages.specs.declared.refusal.Refusal.{Refusal}
use Rattle.wb_messages.specs.declared.refusal.Refusal.TheVariants.{Store}
use Rattle.wb_messages.specs.Content.{Content}
use Rattle.wb_messages.specs.Content.{content_or_refusal}
use Rattle.wb_office.specs.Serves.{is_store_refusal}

-- it is answered so, unless the store refuses
abbrev pub IsAnsweredSo : Result Answer Refusal → Result Content Refusal → Type 0
IsAnsweredSo result want = is_store_refusal result ≡ false → content_or_refusal result ≡ want

-- if the store refuses, it is for want of memory
abbrev pub WantsMemory : Result Answer Refusal → Type 0
WantsMemory result = is_store_refusal result ≡ true → result ≡ Err (Store Memory)
