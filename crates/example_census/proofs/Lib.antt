mod CensusLines
mod CensusSessions
