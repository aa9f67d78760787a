-- The blocks behind lines.
use Rattle.std.specs.Prelude.{ℕ}
use Rattle.pipe_requests.specs.declared.request.Request.{Request}
use Rattle.pipe_requests.specs.declared.request.Request.TheVariants.{Open, Same}

-- how many bytes come behind the line
abbrev pub block_length : Request → ℕ
block_length (Open length rule) = length
block_length (Same length) = length
block_length other = 0
