-- Each contract settles its call: it asks nothing, and two outcomes that it allows for one input are the same answer
-- and the same memory.
use Prim.Native.Nat.{ℕ, ◌<◌, ◌^◌}
use Rattle.std.proofs.Common.{rules}
use mathlib.Core.List.{List}
use mir.Syntax.{w64}
use mir.Val.{Fits}
use Rattle.words.specs.Contract.{Settles}
use Rattle.words.proofs.OneOutcome.{◌▹◌, one-part, one-result, two-parts}
use Rattle.forecast_text.proofs.numerals.decimal_width as decimal_width
use Rattle.forecast_text.proofs.numerals.digit_byte as digit_byte
use Rattle.forecast_text.proofs.numerals.digits_of as digits_of
use Rattle.forecast_text.proofs.printed.print as print
use Rattle.forecast_text.proofs.texts.Text.copy_over as copy_over
use Rattle.forecast_text.proofs.texts.Text.len as len
use Rattle.forecast_text.proofs.texts.Text.new as new
use Rattle.forecast_text.proofs.texts.Text.put as put
use Rattle.forecast_text.proofs.texts.Text.put_digits as put_digits
use Rattle.forecast_text.proofs.texts.Text.put_float as put_float
use Rattle.forecast_text.proofs.texts.Text.put_hex as put_hex
use Rattle.forecast_text.proofs.texts.Text.put_line as put_line
use Rattle.forecast_text.proofs.texts.Text.put_named as put_named
use Rattle.forecast_text.proofs.texts.Text.put_number as put_number

pub digit-byte-once : Settles digit_byte.Kinds.ps digit_byte.Kinds.r digit_byte.Reads.Asked digit_byte.Reads.Post
digit-byte-once κs a = (tt, λ o p. one-result o.1)

pub decimal-width-once :
    Settles decimal_width.Kinds.ps decimal_width.Kinds.r decimal_width.Reads.Asked decimal_width.Reads.Post
decimal-width-once κs a = (tt, λ o p. λ e f. one-result o.1 e.0 f.0)

pub digits-of-once : Settles digits_of.Kinds.ps digits_of.Kinds.r digits_of.Reads.Asked digits_of.Reads.Post
digits-of-once κs a = (tt, λ o p. one-result o.1)

pub print-once : Settles print.Kinds.ps print.Kinds.r print.Reads.Asked print.Reads.Post
print-once κs a =
    (tt, λ o p. λ e f. two-parts (λ (out : List ℕ) (r : ℕ). r ▹ tt ▹ out ▹ tt) (e.0, e.1.0) (f.0, f.1.0))

-- The methods of `Text`, at each room that is shorter than all memory.
module _ (n : ℕ) (fits : Fits w64 n) (few : n < 2 ^ 62) where
  pub new-once :
      Settles (new.Kinds.ps n fits) (new.Kinds.r n fits) (new.Reads.Asked n fits) (new.Reads.Post n fits)
  new-once κs a = (search rules, λ o p. one-result o.1)

  pub len-once : Settles (len.Kinds.ps n fits) (len.Kinds.r n fits) (len.Reads.Asked n fits) (len.Reads.Post n fits)
  len-once κs a = (search rules, λ o p. λ e f. one-result o.1 e.0 f.0)

  pub copy-over-once :
      Settles (copy_over.Kinds.ps n fits) (copy_over.Kinds.r n fits) (copy_over.Reads.Asked n fits)
      (copy_over.Reads.Post n fits)
  copy-over-once κs a = (search rules, λ o p. one-part (λ m. tt ▹ tt ▹ m ▹ tt))

  pub put-once :
      Settles (put.Kinds.ps n fits) (put.Kinds.r n fits) (put.Reads.Asked n fits) (put.Reads.Post n fits)
  put-once κs a = (search rules, λ o p. one-part (λ t. tt ▹ t ▹ tt ▹ tt))

  pub put-digits-once :
      Settles (put_digits.Kinds.ps n fits) (put_digits.Kinds.r n fits)
      (put_digits.Reads.Asked n fits) (put_digits.Reads.Post n fits)
  put-digits-once κs a = (search rules, λ o p. one-part (λ t. tt ▹ t ▹ tt ▹ tt ▹ tt ▹ tt))

  pub put-number-once :
      Settles (put_number.Kinds.ps n fits) (put_number.Kinds.r n fits)
      (put_number.Reads.Asked n fits) (put_number.Reads.Post n fits)
  put-number-once κs a = (search rules, λ o p. one-part (λ t. tt ▹ t ▹ tt ▹ tt))

  pub put-hex-once :
      Settles (put_hex.Kinds.ps n fits) (put_hex.Kinds.r n fits)
      (put_hex.Reads.Asked n fits) (put_hex.Reads.Post n fits)
  put-hex-once κs a = (search rules, λ o p. one-part (λ t. tt ▹ t ▹ tt ▹ tt))

  pub put-float-once :
      Settles (put_float.Kinds.ps n fits) (put_float.Kinds.r n fits)
      (put_float.Reads.Asked n fits) (put_float.Reads.Post n fits)
  put-float-once κs a = (search rules, λ o p. one-part (λ t. tt ▹ t ▹ tt ▹ tt))

  pub put-named-once :
      Settles (put_named.Kinds.ps n fits) (put_named.Kinds.r n fits)
      (put_named.Reads.Asked n fits) (put_named.Reads.Post n fits)
  put-named-once κs a = (search rules, λ o p. one-part (λ t. tt ▹ t ▹ tt ▹ tt ▹ tt))

  pub put-line-once :
      Settles (put_line.Kinds.ps n fits) (put_line.Kinds.r n fits)
      (put_line.Reads.Asked n fits) (put_line.Reads.Post n fits)
  put-line-once κs a = (search rules, λ o p. one-part (λ t. tt ▹ t ▹ tt ▹ tt ▹ tt))
