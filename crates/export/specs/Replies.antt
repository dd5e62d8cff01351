-- Replies of whole lists and buffers in one number: a refusal's number and its tree stand below bit 63, 32 bits each.
use Rattle.std.specs.Prelude.{ℕ, ◌+◌, ◌*◌, ◌%◌, Result, Ok, Err, ⊤}
use Rattle.tree.specs.declared.refusal.Refusal.{Refusal}
use Rattle.tables.specs.declared.make.Made.{Made}

abbrev pub refused_code : Refusal → ℕ
refused_code r = 9223372036854775808 + 4294967296 * (r.number % 2147483648) + r.tree

-- a refusal's number alone, out of the way of every length and place
abbrev pub refusal_code : ℕ → ℕ
refusal_code k = 9223372036854775808 + k

-- an answer, by what stands for its value and what for its refusal
abbrev pub reply_of : {T E : Type 0} → (T → ℕ) → (E → ℕ) → Result T E → ℕ
reply_of value refusal (Ok x) = value x
reply_of value refusal (Err e) = refusal e

abbrev pub verdict_code : Result ⊤ Refusal → ℕ
verdict_code v = reply_of (λ _. 0) refused_code v

abbrev pub report_code : Result ℕ Refusal → ℕ
report_code v = reply_of (λ n. n) refused_code v

-- two numbers, the second below bit 32
abbrev pub made_code : Made → ℕ
made_code m = 4294967296 * (m.parts % 2147483648) + m.symbols % 4294967296

abbrev pub tables_code : Result Made Refusal → ℕ
tables_code v = reply_of made_code refused_code v
