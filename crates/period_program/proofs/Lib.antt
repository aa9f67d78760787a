mod AskedCandidates
mod Findings
mod LastSessions
